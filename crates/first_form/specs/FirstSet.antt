-- The sets and the lists of sources and sinks that are instrumented so far. This project's own.
use Rattle.std.specs.Prelude.{◌≡◌, ◌≢◌, ℕ, ℤ, pos, negsuc, ◌≤ℤ◌, List, [], ◌∷◌, map, ◌⊎◌, codes}
use Rattle.std.specs.List.{Contains}
use Rattle.lists.specs.Texts.{units_of}
use Rattle.class_model.specs.declared.class.ClassDef.{ClassDef}
use Rattle.run_state.specs.declared.config.Config.{Config}
use Rattle.run_state.specs.declared.config.Source.{Source}
use Rattle.run_state.specs.declared.config.Sink.{Sink}
use Rattle.profile_check.specs.declared.profile.Names.TheVariants as names
use Rattle.small_base.specs.Members.{object_name, native_name, gives_int, takes_int}
use Rattle.small_base.specs.Base.{small_base}
use Rattle.first_form.specs.FormOne.{FormOne}

-- the small base, or one class of the form before it
abbrev pub IsFirstSet : List ClassDef → Type 0
IsFirstSet set = (set ≡ small_base) ⊎ ((class : ClassDef) × (set ≡ class ∷ small_base) × FormOne names.Source class)

-- a set in which `java/lang/Object` is, as each closed one
abbrev pub HasObject : List ClassDef → Type 0
HasObject set = Contains (map (λ class. class.name) set) object_name

-- the class of this number is the first that is not built: the first of all where it is not of the form, else the second
abbrev pub IsFirstOther : List ClassDef → ℕ → Type 0
IsFirstOther [] number = ⊥
IsFirstOther (class ∷ classes) number = ((number ≡ 0) × (FormOne names.Source class → ⊥)) ⊎ ((number ≡ 1) × FormOne names.Source class × (classes ≢ []))

-- a set that is not built yet, with the number of its first class that is not. Where a set does not end with the small
-- base, the folder has a `java/lang/Object` of its own, which is never of the form
pub record IsNotBuilt (set : List ClassDef) (number : ℕ) : Type 0 where
  pub not_first : IsFirstSet set → ⊥
  pub told : IsFirstOther set number

-- a number that two bytes hold with their sign
pub record IsShort (n : ℤ) : Type 0 where
  pub low : negsuc 32767 ≤ℤ n
  pub high : n ≤ℤ pos 32767

-- `sys/Native.read()I` as a source
abbrev pub read_source : (tag : ℤ) → Source
read_source tag = record { class = native_name; name = units_of (codes "read"); desc = gives_int; tag = tag }

-- `sys/Native.write(I)V` as a sink
abbrev pub write_sink : Sink
write_sink = record { class = native_name; name = units_of (codes "write"); desc = takes_int }

-- at most one source, `sys/Native.read()I`, with a tag that two bytes hold; at most one sink, `sys/Native.write(I)V`
pub record IsFirstConfig (config : Config) : Type 0 where
  pub source : (config.sources ≡ []) ⊎ ((tag : ℤ) × IsShort tag × (config.sources ≡ read_source tag ∷ []))
  pub sink : (config.sinks ≡ []) ⊎ (config.sinks ≡ write_sink ∷ [])
