-- Straight-line code on ints passes the rules on types.
use Rattle.std.proofs.Common.{◌≡◌, ◌∙◌, ℕ, zero, suc, ◌+◌, ◌*◌, ◌-◌, ◌<◌, ◌≤◌, Bool, true, false, cond, not, ◌&&◌, ◌||◌, List, [], ◌∷◌, length, refl, sym, ap, subst, ℤ, Result, Ok, length-set, arith, le-leb}
use Rattle.std.specs.Prelude.{nat_le, nat_lt, slice_set, replicate, sum_by, unwrap_or}
use Rattle.std.specs.List.{list_all, list_any}
use Rattle.std.proofs.lemmas.List.Folds.{sum_by-replicate}
use Rattle.std.proofs.lemmas.Option.{slice_get_within}
use Rattle.class_model.specs.declared.insn.Insn.{Insn}
use Rattle.class_model.specs.declared.insn.Insn.TheVariants.{PushInt, Load, Store, Stack, Bin, Invoke}
use Rattle.class_model.specs.declared.insn.Kind.TheVariants as kinds
use Rattle.class_model.specs.declared.insn.Width.TheVariants as widths
use Rattle.class_model.specs.declared.insn.StackOp.TheVariants as stacks
use Rattle.class_model.specs.declared.insn.InvokeKind.TheVariants as invokes
use Rattle.class_model.specs.declared.types.MethodRef.{MethodRef}
use Rattle.class_model.specs.declared.class.VType.{VType}
use Rattle.class_model.specs.declared.class.VType.TheVariants.{Int, Top}
use Rattle.class_set.specs.Assignable.{assignable, width, is_long, is_uninit_this}
use Rattle.class_model.specs.declared.insn.BinOp.{BinOp}
use Rattle.set_lookups.specs.SameTypes.{and_first, and_second}
use Rattle.type_rows.specs.declared.state.TypeState.{TypeState}
use Rattle.type_rows.specs.declared.rule.VerifyRule.{VerifyRule}
use Rattle.type_rows.specs.declared.rule.VerifyRule.TheVariants as rules
use Rattle.type_rows.specs.Method.{Method}
use Rattle.type_rows.specs.State.{state, on_ok, need}
use Rattle.type_rows.specs.Operands.{push, turns, is_kind, take_kind}
use Rattle.type_rows.specs.Blocks.{row_stack}
use Rattle.type_rows.specs.Calls.{row_invoke}
use Rattle.type_rows.specs.Jumps.{targets, falls}
use Rattle.type_rows.specs.Locals.{word_at, cut, stored}
use Rattle.type_rows.specs.Rows.{row}
use Rattle.first_form.specs.declared.frame.IntFrame.{IntFrame}
use Rattle.profile_check.specs.declared.profile.Names.TheVariants.{Written}
use Rattle.first_form.specs.declared.natives.Native.{Native}
use Rattle.first_form.specs.declared.natives.Native.TheVariants.{Read, Write, Report}
use Rattle.first_form.specs.Natives.{ref_of}
use Rattle.first_form.specs.Typing.{Pushes, Pops, LoadsInt, StoresInt, JoinsInts, Calls, Types}
use Rattle.first_form_laws.proofs.Tests.{and_false}

abbrev pub ints : ℕ → List VType
ints depth = replicate depth Int

-- the types that a frame says
abbrev pub types_in : IntFrame → TypeState
types_in f = state f.locals (ints f.depth)

-- neither a long nor an object that is not initialised
abbrev pub is_plain : VType → Bool
is_plain ty = not (is_long ty || is_uninit_this ty)

-- what each frame of a method keeps to
pub record Fits (m : Method) (f : IntFrame) : Type 0 where
  pub as_many : length f.locals ≡ m.code.max_locals
  pub plain : list_all is_plain f.locals ≡ true
  pub low : f.depth ≤ m.code.max_stack

deep : (m : Method) (n : ℕ) → n ≤ m.code.max_stack → nat_le (sum_by width (ints n)) m.code.max_stack ≡ true
deep m n h = let e : sum_by width (ints n) ≡ n * 1 = sum_by-replicate width n Int in le-leb (sum_by width (ints n)) m.code.max_stack (omega (arith, e))

-- ---- locals of a frame

true_both : (a b : Bool) → not (a || b) ≡ true → (a ≡ false) × (b ≡ false)
true_both true b h = absurd cc
true_both false true h = absurd cc
true_both false false h = (refl, refl)

first_plain : (ty : VType) (words : List VType) → list_all is_plain (ty ∷ words) ≡ true → (is_long ty ≡ false) × (is_uninit_this ty ≡ false)
first_plain ty words h = true_both (is_long ty) (is_uninit_this ty) (and_first (is_plain ty) (list_all is_plain words) h)

no_long : (words : List VType) (slot : ℕ) → list_all is_plain words ≡ true → is_long (word_at words slot) ≡ false
no_long [] slot h = refl
no_long (ty ∷ words) zero h = (first_plain ty words h).0
no_long (ty ∷ words) (suc slot) h = no_long words slot (and_second (is_plain ty) (list_all is_plain words) h)

pub none_uninit : (words : List VType) → list_all is_plain words ≡ true → list_any is_uninit_this words ≡ false
none_uninit [] h = refl
none_uninit (ty ∷ words) h =
    (λ i. (first_plain ty words h).1 i || list_any is_uninit_this words) ∙ none_uninit words (and_second (is_plain ty) (list_all is_plain words) h)

pub ints_plain : (n : ℕ) → list_any is_uninit_this (ints n) ≡ false
ints_plain zero = refl
ints_plain (suc n) = ints_plain n

pub tops_plain : (n : ℕ) → list_all is_plain (replicate n Top) ≡ true
tops_plain zero = refl
tops_plain (suc n) = tops_plain n

set_plain : (words : List VType) (slot : ℕ) → list_all is_plain words ≡ true → list_all is_plain (slice_set words slot Int) ≡ true
set_plain [] slot h = refl
set_plain (ty ∷ words) zero h = and_second (is_plain ty) (list_all is_plain words) h
set_plain (ty ∷ words) (suc slot) h =
    (λ i. and_first (is_plain ty) (list_all is_plain words) h i && list_all is_plain (slice_set words slot Int)) ∙ set_plain words slot (and_second (is_plain ty) (list_all is_plain words) h)

not_cut : (words : List VType) (slot : ℕ) → list_all is_plain words ≡ true → cut slot words ≡ words
not_cut words slot h =
    ap (λ b. cond b (slice_set words (slot - 1) Top) words) (ap (λ b. nat_lt 0 slot && b) (no_long words (slot - 1) h) ∙ and_false (nat_lt 0 slot))

-- ---- the types behind an instruction

kept : (m : Method) (f g : IntFrame) → Fits m f → g.locals ≡ f.locals → g.depth ≤ m.code.max_stack → Fits m g
kept m f g fits e low = record {
  as_many = ap length e ∙ fits.as_many;
  plain = ap (list_all is_plain) e ∙ fits.plain;
  low = low;
}

abbrev went_well : TypeState → Result TypeState VerifyRule
went_well s = Ok s

-- the frame behind, as the types that it says
behind : (f g : IntFrame) (words : List VType) → g.locals ≡ f.locals → ints g.depth ≡ words → went_well (state f.locals words) ≡ went_well (types_in g)
behind f g words e d = λ i. Ok (state (sym e i) (sym d i))

ints_more : (n k : ℕ) → n ≡ k + 1 → ints n ≡ Int ∷ ints k
ints_more n k e = let more : n ≡ suc k = omega arith in ap ints more

-- an int comes on the stack
pushed : (m : Method) (f g : IntFrame) → Pushes m.code.max_stack f g → push m Int f.locals (ints f.depth) ≡ Ok (types_in g)
pushed m f g p =
    ap (λ b. need b rules.Room (Ok (state f.locals (Int ∷ ints f.depth)))) (deep m (suc f.depth) (omega (arith, p.0)))
    ∙ behind f g (Int ∷ ints f.depth) p.2 (ints_more g.depth f.depth p.1)

pub record Behind (m : Method) (at : ℕ) (insn : Insn) (f g : IntFrame) : Type 0 where
  pub typed : row m at insn (types_in f) ≡ Ok (types_in g)
  pub fits : Fits m g
  pub no_target : targets insn ≡ []
  pub goes_on : falls insn ≡ true

push_typed : (m : Method) (at : ℕ) (number : ℤ) (f g : IntFrame) → Fits m f → Pushes m.code.max_stack f g → Behind m at (PushInt number) f g
unfolding row targets falls
push_typed m at number f g fits p = record {
  typed = pushed m f g p;
  fits = kept m f g fits p.2 (omega (arith, p.0, p.1));
  no_target = refl;
  goes_on = refl;
}

has_room : (m : Method) (f : IntFrame) (slot : ℕ) → Fits m f → slot < length f.locals → nat_le (slot + 1) m.code.max_locals ≡ true
has_room m f slot fits h = le-leb (slot + 1) m.code.max_locals (omega (arith, fits.as_many))

load_typed : (m : Method) (at slot : ℕ) (f g : IntFrame) → Fits m f → LoadsInt m.code.max_stack slot f g → Behind m at (Load kinds.Int slot) f g
unfolding row targets falls
load_typed m at slot f g fits h =
    let word : word_at f.locals slot ≡ Int = ap (λ o. unwrap_or o Top) h.0 in
    let local = has_room m f slot fits (slice_get_within f.locals slot Int h.0) in
    record {
      typed =
          ap (λ b. need b rules.Local (need (is_kind kinds.Int (word_at f.locals slot)) rules.Operand (push m (word_at f.locals slot) f.locals (ints f.depth)))) local
          ∙ ap (λ ty. need (is_kind kinds.Int ty) rules.Operand (push m ty f.locals (ints f.depth))) word
          ∙ pushed m f g h.1;
      fits = kept m f g fits h.1.2 (omega (arith, h.1.0, h.1.1));
      no_target = refl;
      goes_on = refl;
    }

store_typed : (m : Method) (at slot : ℕ) (f g : IntFrame) → Fits m f → StoresInt slot f g → Behind m at (Store kinds.Int slot) f g
unfolding row targets falls
store_typed m at slot f g fits h =
    let taken = ints_more f.depth g.depth h.1 in
    let local = has_room m f slot fits h.0 in
    record {
      typed =
          ap (λ b. need b rules.Local (on_ok (take_kind kinds.Int (ints f.depth)) (λ taken. Ok (state (stored slot taken.ty f.locals) taken.rest)))) local
          ∙ ap (λ stack. on_ok (take_kind kinds.Int stack) (λ taken. Ok (state (stored slot taken.ty f.locals) taken.rest))) taken
          ∙ ap (λ words. Ok (state (slice_set words slot Int) (ints g.depth))) (not_cut f.locals slot fits.plain)
          ∙ ap (λ words. Ok (state words (ints g.depth))) (sym h.2);
      fits = record {
        as_many = ap length h.2 ∙ length-set f.locals slot Int ∙ fits.as_many;
        plain = ap (list_all is_plain) h.2 ∙ set_plain f.locals slot fits.plain;
        low = omega (arith, fits.low, h.1);
      };
      no_target = refl;
      goes_on = refl;
    }

drop_typed : (m : Method) (at : ℕ) (f g : IntFrame) → Fits m f → Pops 1 f g → Behind m at (Stack stacks.Pop) f g
unfolding row targets falls
drop_typed m at f g fits h =
    let low : g.depth ≤ m.code.max_stack = omega (arith, fits.low, h.0) in
    record {
      typed =
          ap (λ stack. row_stack m stacks.Pop (state f.locals stack)) (ints_more f.depth g.depth h.0)
          ∙ ap (λ b. need b rules.Room (Ok (state f.locals (ints g.depth)))) (deep m g.depth low)
          ∙ behind f g (ints g.depth) h.1 refl;
      fits = kept m f g fits h.1 low;
      no_target = refl;
      goes_on = refl;
    }

join_typed : (m : Method) (at : ℕ) (op : BinOp) (f g : IntFrame) → Fits m f → JoinsInts f g → Behind m at (Bin widths.Int op) f g
unfolding row targets falls assignable
join_typed m at op f g fits h =
    let rest = g.depth - 1 in
    let low : g.depth ≤ m.code.max_stack = omega (arith, fits.low, h.1) in
    let one : g.depth ≡ rest + 1 = omega (arith, h.0) in
    let below = ints_more g.depth rest one in
    record {
      typed =
          ap (λ stack. turns m (Int ∷ Int ∷ []) Int (state f.locals stack)) (ints_more f.depth g.depth h.1 ∙ ap (λ words. Int ∷ words) below)
          ∙ ap (λ b. need b rules.Room (Ok (state f.locals (Int ∷ ints rest)))) (deep m (suc rest) (omega (arith, low, one)))
          ∙ behind f g (Int ∷ ints rest) h.2 below;
      fits = kept m f g fits h.2 low;
      no_target = refl;
      goes_on = refl;
    }

call_typed : (m : Method) (at : ℕ) (native : Native) (f g : IntFrame) → Fits m f → Calls Written m.code.max_stack native f g → Behind m at (Invoke invokes.Static (ref_of native)) f g
unfolding row targets falls assignable
call_typed m at Read f g fits h = record {
  typed = pushed m f g h;
  fits = kept m f g fits h.2 (omega (arith, h.0, h.1));
  no_target = refl;
  goes_on = refl;
}
call_typed m at Write f g fits h = record {
  typed =
      ap (λ stack. row_invoke m invokes.Static (ref_of Write) (state f.locals stack)) (ints_more f.depth g.depth h.0)
      ∙ behind f g (ints g.depth) h.1 refl;
  fits = kept m f g fits h.1 (omega (arith, fits.low, h.0));
  no_target = refl;
  goes_on = refl;
}
call_typed m at Report f g fits h =
    let three : f.depth ≡ suc (suc (suc g.depth)) = omega (arith, h.0) in
    record {
      typed =
          ap (λ depth. row_invoke m invokes.Static (ref_of Report) (state f.locals (ints depth))) three
          ∙ behind f g (ints g.depth) h.1 refl;
      fits = kept m f g fits h.1 (omega (arith, fits.low, h.0));
      no_target = refl;
      goes_on = refl;
    }

pub insn_typed : (m : Method) (at : ℕ) (insn : Insn) (f g : IntFrame) → Fits m f → Types Written m.code.max_stack insn f g → Behind m at insn f g
insn_typed m at (PushInt number) f g fits h = push_typed m at number f g fits h
insn_typed m at (Load kinds.Int slot) f g fits h = load_typed m at slot f g fits h
insn_typed m at (Store kinds.Int slot) f g fits h = store_typed m at slot f g fits h
insn_typed m at (Stack stacks.Pop) f g fits h = drop_typed m at f g fits h
insn_typed m at (Bin widths.Int op) f g fits h = join_typed m at op f g fits h.1
insn_typed m at (Invoke invokes.Static method) f g fits h =
    subst (λ (target : MethodRef). Behind m at (Invoke invokes.Static target) f g) (sym h.1) (call_typed m at h.0 f g fits h.2)
insn_typed m at _ f g fits h = absurd h
