-- What is known of a field that a reference resolves to.
use Rattle.std.proofs.Common.{◌≡◌, ◌∙◌, ℕ, zero, suc, Bool, true, false, ◌&&◌, List, [], ◌∷◌, length, refl, ap, subst, Option, Some, None, ◌⊎◌, inl, inr}
use Rattle.std.specs.Prelude.{slice_get, position, option_and_then}
use Rattle.std.specs.Option.{option_or}
use Rattle.std.proofs.lemmas.Option.{same_Some, none-some}
use Rattle.class_model.specs.declared.types.JType.{JType}
use Rattle.class_model.specs.declared.types.FieldRef.{FieldRef}
use Rattle.class_model.specs.declared.class.FieldDef.{FieldDef}
use Rattle.class_model.specs.declared.class.ClassDef.{ClassDef}
use Rattle.set_lookups.specs.Above.{same_name, find_class}
use Rattle.set_lookups.specs.First.{first}
use Rattle.set_lookups.specs.Same as look
use Rattle.set_lookups.specs.SameTypes.{one_test, name_true, name_self, type_true, type_self}
use Rattle.set_lookups.specs.Lookups.{Member, member_of, member_in, has_field, field_here, declared_field, interfaces_at, super_at, field_from, resolve_field}
use Rattle.run_state.specs.Texts as run
use Rattle.run_state.specs.SetLooks.{reference_to}
use Rattle.look_laws.specs.Shown.{field_in}
use Rattle.look_laws.proofs.Alike.{types_alike}

-- a member is the first field of its class that a reference means
pub record IsFieldOf (set : List ClassDef) (ref : FieldRef) (m : Member) : Type 0 where
  pub class : ClassDef
  pub there : slice_get set m.class ≡ Some class
  pub place : position (has_field ref) class.fields ≡ Some m.index

here_by : (set : List ClassDef) (ref : FieldRef) (number : ℕ) (c : ClassDef) (place : Option ℕ) (m : Member) → slice_get set number ≡ Some c → position (has_field ref) c.fields ≡ place → member_in number place ≡ Some m → IsFieldOf set ref m
here_by set ref number c None m e at h = absurd (none-some m h)
here_by set ref number c (Some i) m e at h = subst (IsFieldOf set ref) (same_Some (member_of number i) m h) (record { class = c; there = e; place = at })

declared_by : (set : List ClassDef) (ref : FieldRef) (number : ℕ) (found : Option ClassDef) (m : Member) → slice_get set number ≡ found → field_here ref number found ≡ Some m → IsFieldOf set ref m
declared_by set ref number None m e h = absurd (none-some m h)
declared_by set ref number (Some c) m e h = here_by set ref number c (position (has_field ref) c.fields) m e refl h

or_some : {A : Type 0} (a b : Option A) (x : A) → option_or a b ≡ Some x → (a ≡ Some x) ⊎ (b ≡ Some x)
or_some None b x h = inr h
or_some (Some y) b x h = inl h

one_by : {A : Type 0} (P : A → Type 0) (a b : Option A) (y : A) → (a ≡ Some y) ⊎ (b ≡ Some y) → (a ≡ Some y → P y) → (b ≡ Some y → P y) → P y
one_by P a b y (inl h) f g = f h
one_by P a b y (inr h) f g = g h

one_of : {A : Type 0} (P : A → Type 0) (a b : Option A) (y : A) → option_or a b ≡ Some y → (a ≡ Some y → P y) → (b ≡ Some y → P y) → P y
one_of P a b y h f g = one_by P a b y (or_some a b y h) f g

pub first_some : {A : Type 0} (P : A → Type 0) (f : ℕ → Option A) (xs : List ℕ) (y : A) → ((x : ℕ) (z : A) → f x ≡ Some z → P z) → first f xs ≡ Some y → P y
unfolding first
first_some P f [] y each h = absurd (none-some y h)
first_some P f (x ∷ xs) y each h = one_of P (f x) (first f xs) y h (each x y) (first_some P f xs y each)

from_member : (k : ℕ) (set : List ClassDef) (ref : FieldRef) (number : ℕ) (m : Member) → field_from k set ref number ≡ Some m → IsFieldOf set ref m
unfolding field_from
from_member zero set ref number m h = declared_by set ref number (slice_get set number) m refl h
from_member (suc k) set ref number m h =
    let f = field_from k set ref in
    one_of (IsFieldOf set ref) (declared_field set ref number) (option_or (first f (interfaces_at set number)) (first f (super_at set number))) m h
    (declared_by set ref number (slice_get set number) m refl)
    (λ above. one_of (IsFieldOf set ref) (first f (interfaces_at set number)) (first f (super_at set number)) m above
    (first_some (IsFieldOf set ref) f (interfaces_at set number) m (λ x z e. from_member k set ref x z e))
    (first_some (IsFieldOf set ref) f (super_at set number) m (λ x z e. from_member k set ref x z e)))

found_member : (set : List ClassDef) (ref : FieldRef) (number : Option ℕ) (m : Member) → option_and_then (field_from (length set) set ref) number ≡ Some m → IsFieldOf set ref m
found_member set ref None m h = absurd (none-some m h)
found_member set ref (Some n) m h = from_member (length set) set ref n m h

pub field_member : (set : List ClassDef) (ref : FieldRef) (m : Member) → resolve_field set ref ≡ Some m → IsFieldOf set ref m
unfolding resolve_field
field_member set ref m h = found_member set ref (find_class set ref.class) m h

-- what a reference to it is compared by
name_back : (x y : List ℕ) → same_name x y ≡ same_name y x
name_back x y =
    one_test (same_name x y) (same_name y x) (λ t. subst (λ z. same_name z x ≡ true) (name_true x y t) (name_self x)) (λ t. subst (λ z. same_name z y ≡ true) (name_true y x t) (name_self y))

type_back : (x y : JType) → look.same_type x y ≡ look.same_type y x
type_back x y =
    one_test (look.same_type x y) (look.same_type y x) (λ t. subst (λ z. look.same_type z x ≡ true) (type_true x y t) (type_self x)) (λ t. subst (λ z. look.same_type z y ≡ true) (type_true y x t) (type_self y))

with_self : (a b c : Bool) → a ≡ true → (a && b && c) ≡ (b && c)
with_self true b c h = refl
with_self false b c h = absurd cc

pub meant : (ref : FieldRef) (c : ClassDef) (d : FieldDef) → run.same_field (reference_to c d) (field_in ref c) ≡ has_field ref d
meant ref c d = with_self (same_name c.name c.name) (same_name d.name ref.name) (run.same_type d.ty ref.ty) (name_self c.name) ∙ ap (λ t. same_name d.name ref.name && t) (types_alike d.ty ref.ty)

pub meant_back : (ref : FieldRef) (c : ClassDef) (d : FieldDef) → run.same_field (field_in ref c) (reference_to c d) ≡ has_field ref d
meant_back ref c d =
    with_self (same_name c.name c.name) (same_name ref.name d.name) (run.same_type ref.ty d.ty) (name_self c.name)
    ∙ ap (λ t. t && run.same_type ref.ty d.ty) (name_back ref.name d.name)
    ∙ ap (λ t. same_name d.name ref.name && t) (types_alike ref.ty d.ty ∙ type_back ref.ty d.ty)
