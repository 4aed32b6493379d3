-- Classes that are tested against those of the base.
use Rattle.std.proofs.Common.{◌≡◌, ◌≢◌, ◌∙◌, ◌↔◌, ℕ, ◌+◌, ◌<◌, ◌≤◌, Bool, true, false, List, [], ◌∷◌, ◌++◌, length, get_or, take, map, sym, ap, arith}
use Rattle.std.specs.Prelude.{IsTrue}
use Rattle.std.proofs.lemmas.Bool.{false≢true}
use Rattle.std.proofs.lemmas.List.{take_more, take_all, get_or-map, map-append}
use Rattle.class_model.specs.declared.class.MethodDef.{MethodDef}
use Rattle.class_model.specs.declared.class.ClassDef.{ClassDef}

-- a class is tested by all but its methods, and by these
pub with_methods : (class : ClassDef) (made : List MethodDef → ClassDef) (methods tested : List MethodDef) (p q : Bool) → ((ms : List MethodDef) → (made ms).methods ≡ ms)
    → IsTrue p ↔ (class ≡ made class.methods) → tested ≡ class.methods → IsTrue q ↔ (tested ≡ methods) → p ≡ true → IsTrue q ↔ (class ≡ made methods)
with_methods class made methods tested p q keeps bare is own holds = (
  λ said. bare.0 holds ∙ ap made (sym is ∙ own.0 said),
  λ same. own.1 (is ∙ ap (λ (c : ClassDef). c.methods) same ∙ keeps methods),
)

pub other_bare : (class : ClassDef) (made : List MethodDef → ClassDef) (methods : List MethodDef) (p : Bool) → ((ms : List MethodDef) → (made ms).methods ≡ ms)
    → IsTrue p ↔ (class ≡ made class.methods) → p ≡ false → IsTrue p ↔ (class ≡ made methods)
other_bare class made methods p keeps bare not_so = (
  λ said. absurd (false≢true (sym not_so ∙ said)),
  λ same. bare.1 (same ∙ ap made (sym (ap (λ (c : ClassDef). c.methods) same ∙ keeps methods))),
)

-- one more class is that of its row
pub rows_more : {A B : Type 0} (f : A → B) (rows : List A) (classes : List B) (i : ℕ) (d : A) (x : B) → length classes ≡ length rows → i < length rows → x ≡ get_or classes i x
    → take i classes ≡ map f (take i rows) → x ≡ f (get_or rows i d) → take (i + 1) classes ≡ map f (take (i + 1) rows)
rows_more f rows classes i d x long lt is so_far same =
    take_more classes i x (omega arith)
    ∙ ap (λ y. take i classes ++ y ∷ []) (sym is ∙ same)
    ∙ ap (λ ys. ys ++ f (get_or rows i d) ∷ []) so_far
    ∙ sym (ap (map f) (take_more rows i d lt) ∙ map-append f (take i rows) (get_or rows i d ∷ []))

-- a class is not that of its row
pub row_other : {A B : Type 0} (f : A → B) (rows : List A) (classes : List B) (i : ℕ) (d : A) (x : B) → i < length rows → x ≡ get_or classes i x → x ≢ f (get_or rows i d) → classes ≢ map f rows
row_other f rows classes i d x lt is other same = other (is ∙ ap (λ cs. get_or cs i x) same ∙ get_or-map f rows i d x lt)

pub rows_all : {A B : Type 0} (f : A → B) (rows : List A) (classes : List B) (i : ℕ) → length classes ≡ length rows → length rows ≤ i → take i classes ≡ map f (take i rows) → classes ≡ map f rows
rows_all f rows classes i long le so_far = sym (take_all i classes (omega arith)) ∙ so_far ∙ ap (map f) (take_all i rows le)
