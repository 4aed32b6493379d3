-- A list of one item.
use Rattle.std.proofs.Common.{◌≡◌, ◌∙◌, List, [], ◌∷◌, length, get_or, Option, Some, None, Bor, sym, ap, arith}
use Rattle.std.specs.Prelude.{MatchOption}
use Rattle.class_model.specs.declared.class.CodeDef.{CodeDef}
use Rattle.class_model.specs.declared.class.MethodDef.{MethodDef}
use Rattle.first_form.specs.FormOne.{main_method}

pub single_is : {X : Type 0} (xs : List X) (x : X) → length xs ≡ 1 → x ≡ get_or xs 0 x → xs ≡ x ∷ []
single_is [] x one is = absurd (omega arith)
single_is (y ∷ []) x one is = ap (λ z. z ∷ []) (sym is)
single_is (y ∷ z ∷ zs) x one is = absurd (omega arith)

-- what is said of the one method is said of the methods
pub single_main : (methods : List MethodDef) (method : MethodDef) (r : Option (Bor CodeDef)) → methods ≡ method ∷ []
    → MatchOption r ((code : CodeDef) → method ≡ main_method code → ⊥) (λ code. method ≡ main_method code.now)
    → MatchOption r ((code : CodeDef) → methods ≡ main_method code ∷ [] → ⊥) (λ code. methods ≡ main_method code.now ∷ [])
single_main methods method None is says = λ code same.
    let joined : method ∷ [] ≡ main_method code ∷ [] = sym is ∙ same in
    says code (ap (λ (ms : List MethodDef). get_or ms 0 method) joined)
single_main methods method (Some code) is says = is ∙ ap (λ (m : MethodDef). m ∷ []) says
