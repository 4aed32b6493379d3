-- The start under a map of tags, and erasure of the tagged machine's runs.
use Rattle.std.proofs.Common.{◌≡◌, ℕ, ℤ, pos, List, [], ◌∷◌, ◌++◌, map, Option, Some, None, refl, ap, ◌∙◌}
use Rattle.std.proofs.lemmas.List.{map-append}
use Rattle.class_model.specs.declared.types.JType.{JType}
use Rattle.class_model.specs.declared.class.Constant.{Constant}
use Rattle.class_model.specs.declared.class.Constant.TheVariants as constant
use Rattle.class_model.specs.declared.class.FieldDef.{FieldDef}
use Rattle.class_model.specs.declared.class.ClassDef.{ClassDef}
use Rattle.run_state.specs.declared.config.Config.{Config}
use Rattle.run_state.specs.State.{State}
use Rattle.run_state.specs.Tags.{plain, tagged}
use Rattle.run_state.specs.SetLooks.{looks_of, static_fields, first_value, first_statics}
use Rattle.run_state.specs.Step.{run}
use Rattle.run_state.specs.Observation.{start, plain_at, tagged_at, plain_obs, tagged_obs}
use Rattle.run_state.specs.Erasure.{word_of, words_of, without_reports, erase, Maps}
use Rattle.run_state.proofs.ErasedWords.{default_word}
use Rattle.run_state.proofs.ErasedRuns.{run_image}

module _ {T U : Type 0} (h : T → U) where
  first_word : (t : T) (ty : JType) (k : Option Constant) → word_of h (first_value t ty k) ≡ first_value (h t) ty k
  first_word t ty None = default_word h t ty
  first_word t ty (Some (constant.Int v)) = refl
  first_word t ty (Some (constant.Long v)) = refl
  first_word t ty (Some (constant.Text text)) = default_word h t ty

  first_words : (t : T) (ds : List FieldDef) → words_of h (map (λ d. first_value t d.ty d.constant) ds) ≡ map (λ d. first_value (h t) d.ty d.constant) ds
  first_words t [] = refl
  first_words t (d ∷ ds) =
      ap (λ w. w ∷ words_of h (map (λ d. first_value t d.ty d.constant) ds)) (first_word t d.ty d.constant)
      ∙ ap (λ l. first_value (h t) d.ty d.constant ∷ l) (first_words t ds)

  statics_words : (t : T) (set : List ClassDef) → words_of h (first_statics t set) ≡ first_statics (h t) set
  statics_words t [] = refl
  statics_words t (c ∷ cs) =
      map-append (word_of h) (map (λ d. first_value t d.ty d.constant) (static_fields c)) (first_statics t cs)
      ∙ ap (λ l. l ++ words_of h (first_statics t cs)) (first_words t (static_fields c))
      ∙ ap (λ l. map (λ d. first_value (h t) d.ty d.constant) (static_fields c) ++ l) (statics_words t cs)

to_plain : (config : Config) → Maps (tagged config) plain (λ (t : ℤ). tt)
to_plain config = record { at_none = refl; at_join = λ a b. refl; at_marked = λ m t. refl }

pub erased : (set : List ClassDef) (config : Config) (main input : List ℕ) (n : ℕ) → erase (tagged_at set config main input n) ≡ without_reports (plain_at set main input n)
unfolding erase plain_at tagged_at
erased set config main input n =
    let h : ℤ → Unit {0} = λ t. tt in
    let first = start plain set input in
    run_image (tagged config) plain h (to_plain config) (looks_of set main) n (start (tagged config) set input) []
    ∙ ap (λ l. without_reports (run plain (looks_of set main) n (record first { areas = record first.areas { statics = l } }))) (statics_words h (pos 0) set)

pub same_console : (set : List ClassDef) (config : Config) (main input : List ℕ) (n : ℕ) → (tagged_obs set config main input n).console ≡ (plain_obs set main input n).console
unfolding erase plain_obs tagged_obs
same_console set config main input n = ap (λ (s : State (Unit {0})). s.outside.console) (erased set config main input n)

pub same_ending : (set : List ClassDef) (config : Config) (main input : List ℕ) (n : ℕ) → (tagged_obs set config main input n).ending ≡ (plain_obs set main input n).ending
unfolding erase plain_obs tagged_obs
same_ending set config main input n = ap (λ (s : State (Unit {0})). s.ending) (erased set config main input n)
