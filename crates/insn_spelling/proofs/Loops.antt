-- A loop that puts each instruction at its offset.
use Rattle.std.proofs.Common.{◌≡◌, ◌∙◌, ℕ, ◌<◌, ◌≤◌, ◌+◌, List, length, get_or, drop, Result, Err, refl, sym, ap, subst, arith}
use Rattle.std.specs.Prelude.{zip, IsErrAnd}
use Rattle.std.proofs.lemmas.Option.{slice_get-get_or}
use Rattle.std.proofs.lemmas.Slice.Zip.{get_or-zip, length-zip}
use Rattle.class_model.specs.declared.insn.Insn.{Insn}
use Rattle.class_limits.specs.Sizes.{CodeLayout, offset_at}
use Rattle.const_pool.specs.declared.editor.PoolStop.{PoolStop}
use Rattle.const_pool.specs.Pool.{Pool}
use Rattle.pool_names.specs.Adding.{spell_each, behind, PutsBy, Unfit}
use Rattle.pool_names.proofs.Lists.{written, each_goes_on, each_stops, each_is_done}
use Rattle.insn_spelling.specs.Conditions.{LaysOut, Writable, WritableInsns}
use Rattle.insn_spelling.specs.Spelling.{spell_insn, spell_placed, spell_insns}
use Rattle.insn_spelling.proofs.LayoutLaws.{offset_of, lays_length, lays_writable, few_insns}

-- an instruction stands with its offset at its number
record Placed (layout : CodeLayout) (insns : List Insn) (i : ℕ) (x : ℕ × Insn) : Type 0 where
  within : i < length (zip layout.starts insns)
  is : x ≡ get_or (zip layout.starts insns) i x

-- the instruction of a number in the loop
pub record Turn (layout : CodeLayout) (insns : List Insn) (i pc : ℕ) (insn : Insn) : Type 0 where
  pub lays : LaysOut layout insns
  pub within : i < length insns
  pub is : insn ≡ get_or insns i insn
  pub at : pc ≡ offset_at layout i

placed : (layout : CodeLayout) (insns : List Insn) (i pc : ℕ) (insn : Insn) → Turn layout insns i pc insn → Placed layout insns i (pc, insn)
placed layout insns i pc insn turn =
    let many : length layout.starts ≡ length insns = lays_length layout insns turn.lays in
    let start : i < length layout.starts = omega (arith, turn.within) in
    let at : pc ≡ get_or layout.starts i pc = turn.at ∙ offset_of layout i (get_or layout.starts i pc) (slice_get-get_or layout.starts i pc start) in
    record {
      within = omega (arith, length-zip layout.starts insns);
      is = rw (get_or-zip layout.starts insns i (pc, insn) start turn.within) (ap (λ (k : ℕ). let x : ℕ × Insn = (k, insn) in x) at ∙ ap (λ (y : Insn). let x : ℕ × Insn = (get_or layout.starts i pc, y) in x) turn.is);
    }

pub insn_writable : (layout : CodeLayout) (insns : List Insn) (i pc : ℕ) (insn : Insn) → WritableInsns layout insns → Turn layout insns i pc insn → Writable layout (length layout.starts) pc insn
insn_writable layout insns i pc insn w turn =
    let at = placed layout insns i pc insn turn in
    subst (λ (x : ℕ × Insn). Writable layout (length layout.starts) x.0 x.1) (sym at.is) (lays_writable layout insns w.laid w.small w.near w.shaped i (pc, insn) at.within)

-- a number of an instruction has four bytes
pub number_small : (layout : CodeLayout) (insns : List Insn) → WritableInsns layout insns → length insns ≤ 65535
number_small layout insns w = omega (arith, few_insns layout insns w.laid, w.small)

-- what is left to put gives, behind the bytes so far, what the whole gives behind those before
abbrev pub Left : CodeLayout → List Insn → ℕ → Pool → List ℕ → Result (Pool × List ℕ) Unfit → Type 0
Left layout insns i p bytes total = behind bytes (spell_each (spell_placed layout) (drop i (zip layout.starts insns)) p) ≡ total

pub insns_begin : (layout : CodeLayout) (insns : List Insn) (p : Pool) (bytes : List ℕ) → Left layout insns 0 p bytes (behind bytes (spell_insns layout insns p))
unfolding spell_insns
insns_begin layout insns p bytes = refl

pub insns_go_on : (layout : CodeLayout) (insns : List Insn) (i pc : ℕ) (insn : Insn) (p q : Pool) (old mid : List ℕ) (total : Result (Pool × List ℕ) Unfit) → Turn layout insns i pc insn
    → behind old (spell_insn layout pc insn p) ≡ written q mid → Left layout insns i p old total → Left layout insns (i + 1) q mid total
insns_go_on layout insns i pc insn p q old mid total turn one so_far =
    let at = placed layout insns i pc insn turn in
    each_goes_on (spell_placed layout) (zip layout.starts insns) i (pc, insn) p q old mid total at.within at.is one so_far

pub insns_stop : {B : Type 0} (stop : PoolStop) (result : Result B PoolStop) (layout : CodeLayout) (insns : List Insn) (i pc : ℕ) (insn : Insn) (p q : Pool) (old bytes : List ℕ) (total : Result (Pool × List ℕ) Unfit) → Turn layout insns i pc insn
    → PutsBy (λ (x : B). bytes) (Err stop) q (behind old (spell_insn layout pc insn p)) → Left layout insns i p old total → IsErrAnd result (λ e. e ≡ stop) → PutsBy (λ (x : B). bytes) result q total
insns_stop stop result layout insns i pc insn p q old bytes total turn one so_far stops =
    let at = placed layout insns i pc insn turn in
    each_stops (spell_placed layout) stop result (zip layout.starts insns) i (pc, insn) p q old bytes total at.within at.is one so_far stops

pub insns_are_done : (layout : CodeLayout) (insns : List Insn) (i : ℕ) (p : Pool) (old : List ℕ) (total : Result (Pool × List ℕ) Unfit) → LaysOut layout insns → length insns ≤ i → Left layout insns i p old total → total ≡ written p old
insns_are_done layout insns i p old total lays le so_far =
    each_is_done (spell_placed layout) (zip layout.starts insns) i p old total (omega (arith, length-zip layout.starts insns, lays_length layout insns lays)) so_far
