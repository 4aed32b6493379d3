-- What the lists of the first form say of the natives and of `main`.
use Rattle.std.proofs.Common.{◌≡◌, ◌≢◌, ℕ, ℤ, pos, Bool, false, List, [], ◌∷◌, Option, None, refl, sym, ap, ◌∙◌, subst, ⊎_elim, arith}
use Rattle.std.specs.Prelude.{◌⊎◌, ◌&&◌, find, position}
use Rattle.std.specs.Str.{chars}
use Rattle.std.specs.Int.{w32, cast_signed, cast_unsigned}
use Rattle.std.specs.Int.Bits.{or_zero_l}
use Rattle.std.proofs.lemmas.Int.{to_z-of_z, ints}
use Rattle.class_model.specs.declared.class.ClassDef.{ClassDef}
use Rattle.class_model.specs.declared.class.CodeDef.{CodeDef}
use Rattle.run_state.specs.declared.config.Config.{Config}
use Rattle.run_state.specs.declared.config.Source.{Source}
use Rattle.run_state.specs.declared.config.Sink.{Sink}
use Rattle.run_state.specs.Texts.{same_text, same_desc}
use Rattle.run_state.specs.Numbers.{int_or}
use Rattle.run_state.specs.Natives as native
use Rattle.run_state.specs.Tags.{tagged, is_source, is_sink, marked_by, reported_by}
use Rattle.run_state.specs.SetLooks.{method_of}
use Rattle.small_base.specs.Members.{native_name}
use Rattle.first_form.specs.FormOne.{main_method}
use Rattle.first_form.specs.FirstSet.{read_source, write_sink, IsFirstConfig, IsShort}
use Rattle.instrument_set.specs.Marking.{read_tag, is_listed, marks_of}
use Rattle.instrument_set.proofs.Natives.{callee_of}
use Rattle.instrument_set.proofs.Looking.{same_text_other}
use Rattle.instrument_set.proofs.Sim.{AreMarks, reports_of}

short_fits : (tag : ℤ) → IsShort tag → cast_signed w32 (cast_unsigned w32 tag) ≡ tag
short_fits tag short = to_z-of_z w32 tag (omega (arith, ints))

or_nothing : (tag : ℤ) → IsShort tag → int_or (pos 0) tag ≡ tag
or_nothing tag short = ap (λ (bits : ℕ). cast_signed w32 bits) (or_zero_l (cast_unsigned w32 tag)) ∙ short_fits tag short

read_marked : (sources : List Source) → (sources ≡ []) ⊎ ((tag : ℤ) × IsShort tag × (sources ≡ read_source tag ∷ []))
    → marked_by (find (is_source (callee_of native.Read 0)) sources) (pos 0) ≡ read_tag sources
unfolding chars
read_marked sources first =
    ⊎_elim
    (λ none. subst (λ (ss : List Source). marked_by (find (is_source (callee_of native.Read 0)) ss) (pos 0) ≡ read_tag ss) (sym none) refl)
    (λ one. subst (λ (ss : List Source). marked_by (find (is_source (callee_of native.Read 0)) ss) (pos 0) ≡ read_tag ss) (sym one.2) (or_nothing one.0 one.1))
    first

write_reported : (sinks : List Sink) (t : ℤ) → (sinks ≡ []) ⊎ (sinks ≡ write_sink ∷ []) → reported_by (position (is_sink (callee_of native.Write 1)) sinks) (t ∷ []) ≡ reports_of (is_listed sinks) t
unfolding chars
write_reported sinks t first =
    ⊎_elim
    (λ none. subst (λ (ss : List Sink). reported_by (position (is_sink (callee_of native.Write 1)) ss) (t ∷ []) ≡ reports_of (is_listed ss) t) (sym none) refl)
    (λ one. subst (λ (ss : List Sink). reported_by (position (is_sink (callee_of native.Write 1)) ss) (t ∷ []) ≡ reports_of (is_listed ss) t) (sym one) refl)
    first

pub are_marks : (config : Config) → IsFirstConfig config → AreMarks config (marks_of config)
are_marks config first = record { read = read_marked config.sources first.source; write = λ t. write_reported config.sinks t first.sink }

none_at : {A : Type 0} (test : A → Bool) (x : A) → test x ≡ false → position test (x ∷ []) ≡ None
none_at test x h = rw h refl

no_sink : (class : ClassDef) (code : CodeDef) → class.name ≢ native_name → is_sink (method_of class (main_method code)) write_sink ≡ false
unfolding chars
no_sink class code other =
    ap (λ (b : Bool). (b && same_text (method_of class (main_method code)).name write_sink.name) && same_desc (method_of class (main_method code)).desc write_sink.desc) (same_text_other class.name native_name other)

-- `main` of a user's class reports nothing as it is entered
pub main_is_quiet : (config : Config) (class : ClassDef) (code : CodeDef) → IsFirstConfig config → class.name ≢ native_name → (ts : List ℤ) → (tagged config).entered (method_of class (main_method code)) ts ≡ []
main_is_quiet config class code first other ts =
    ⊎_elim
    (λ none. subst (λ (ss : List Sink). reported_by (position (is_sink (method_of class (main_method code))) ss) ts ≡ []) (sym none) refl)
    (λ one. subst (λ (ss : List Sink). reported_by (position (is_sink (method_of class (main_method code))) ss) ts ≡ []) (sym one)
    (ap (λ (o : Option ℕ). reported_by o ts) (none_at (is_sink (method_of class (main_method code))) write_sink (no_sink class code other))))
    first.sink
