-- How an attribute is written, by steps.
use Rattle.std.proofs.Common.{◌≡◌, ◌∙◌, ℕ, List, ◌++◌, Result, Err, refl, sym, ap}
use Rattle.std.specs.Prelude.{IsErrAnd}
use Rattle.const_pool.specs.declared.editor.PoolStop.{PoolStop}
use Rattle.const_pool.specs.declared.editor.PoolStop.TheVariants.{Full, Memory}
use Rattle.const_pool.specs.Pool.{Pool}
use Rattle.pool_names.specs.Adding.{Adding, PutsBy, Puts, behind}
use Rattle.pool_names.specs.Spelling.{spell_bytes}
use Rattle.pool_names.proofs.Claiming.{given}
use Rattle.pool_names.proofs.Lists.{written, stopped}
use Rattle.class_spelling.specs.Forms.{attribute_bytes, framed, spell_attribute}

abbrev IsFramed : ℕ → List ℕ → Type 0
IsFramed k content = (pool : Pool) → framed k content pool ≡ written pool (attribute_bytes k content)

pub attribute_written : (name : List ℕ) (spell : Adding (List ℕ)) (p q r : Pool) (k : ℕ) (content old new : List ℕ) → spell_bytes name p ≡ given q k → spell q ≡ given r content → IsFramed k content → new ≡ old ++ attribute_bytes k content
    → behind old (spell_attribute name spell p) ≡ written r new
unfolding spell_attribute
attribute_written name spell p q r k content old new named puts is added =
    let parts : spell_attribute name spell p ≡ framed k content r = rw (named, puts) refl in
    ap (behind old) (parts ∙ is r) ∙ ap (λ (z : List ℕ). written r z) (sym added)

pub name_stops : {B : Type 0} (name : List ℕ) (spell : Adding (List ℕ)) (stop : PoolStop) (result : Result B PoolStop) (p q : Pool) (old bytes : List ℕ) → Puts (let r : Result ℕ PoolStop = Err stop in r) q (spell_bytes name p) → IsErrAnd result (λ e. e ≡ stop)
    → PutsBy (λ (x : B). bytes) result q (behind old (spell_attribute name spell p))
unfolding spell_attribute
name_stops name spell (Full last) result p q old bytes h stops = stopped (Full last) result q bytes _ stops (rw h refl)
name_stops name spell Memory result p q old bytes h stops = stopped Memory result q bytes _ stops tt

pub content_stops : {B C : Type 0} (view : C → List ℕ) (name : List ℕ) (spell : Adding (List ℕ)) (stop : PoolStop) (result : Result B PoolStop) (p q r : Pool) (k : ℕ) (old bytes : List ℕ) → spell_bytes name p ≡ given q k → PutsBy view (Err stop) r (spell q) → IsErrAnd result (λ e. e ≡ stop)
    → PutsBy (λ (x : B). bytes) result r (behind old (spell_attribute name spell p))
unfolding spell_attribute
content_stops view name spell (Full last) result p q r k old bytes named h stops = stopped (Full last) result r bytes _ stops (rw (named, h) refl)
content_stops view name spell Memory result p q r k old bytes named h stops = stopped Memory result r bytes _ stops tt
