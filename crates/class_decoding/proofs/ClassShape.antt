-- The class of a file has its shape, where its own name is one that a type can have.
use Rattle.std.proofs.Common.{◌≡◌, ℕ, ◌-◌, List, [], ◌∷◌, All, Option, Some, None, Result, Ok, Err, refl, sym, subst}
use Rattle.std.specs.Prelude.{IfOk, slice_get, option_and_then, Bool, true, false, cond, ◌==◌}
use Rattle.std.specs.List.{flat_map}
use Rattle.std.proofs.lemmas.List.Elements.{All-nil, All-cons, All-head, All-tail, All-append, All-get_or}
use Rattle.std.proofs.lemmas.List.Concat.{flat_map-cons}
use Rattle.std.proofs.lemmas.Option.{slice_get_within, get_or_from_slice_get}
use Rattle.class_input.specs.declared.bad_class.BadClass.{BadClass}
use Rattle.class_model.specs.declared.class.FieldDef.{FieldDef}
use Rattle.class_model.specs.declared.class.MethodDef.{MethodDef}
use Rattle.class_model.specs.declared.class.ClassDef.{ClassDef}
use Rattle.class_model.specs.Descriptor.{IsClassName}
use Rattle.const_pool.specs.declared.entry.Entry.{Entry}
use Rattle.const_pool.specs.declared.entry.Entry.TheVariants.{Utf8, Integer, Float, Long, Double, Class, Text, Field, Method, InterfaceMethod, NameAndType, Handle, MethodType, Dynamic}
use Rattle.const_pool.specs.Pool.{Pool, HasText, slots_of, slot_entry, as_text, IsPool}
use Rattle.class_names.specs.Names.{NamesBytes}
use Rattle.class_attributes.specs.Attributes.{contents, source_file, IsSourceFile}
use Rattle.class_file.specs.ClassBytes.{code_name, head_of, IsField, IsMethod}
use Rattle.class_shape.specs.Shaped.{ShapedCode, ShapedField, ShapedMethod, SpellText, Shaped}
use Rattle.code_attribute.specs.CodeContent.{IsCodeContent}
use Rattle.code_attribute.specs.WholeClass.{IsClassFile}
use Rattle.class_decoding.proofs.Counts.{of_one, of_each}
use Rattle.class_decoding.proofs.CodeShape.{code_shaped}

-- ---- texts of the pool

abbrev SlotText : Option Entry → Type 0
SlotText None = Unit {0}
SlotText (Some e) = HasText e

two_slots : (e : Entry) → HasText e → All SlotText (Some e ∷ None ∷ [])
two_slots e h = All-cons SlotText (Some e) (None ∷ []) h (All-cons SlotText None [] tt (All-nil SlotText))

one_slot : (e : Entry) → HasText e → All SlotText (Some e ∷ [])
one_slot e h = All-cons SlotText (Some e) [] h (All-nil SlotText)

entry_slots : (e : Entry) → HasText e → All SlotText (slots_of e)
entry_slots (Utf8 text) h = one_slot (Utf8 text) h
entry_slots (Integer n) h = one_slot (Integer n) h
entry_slots (Float bits) h = one_slot (Float bits) h
entry_slots (Long n) h = two_slots (Long n) h
entry_slots (Double bits) h = two_slots (Double bits) h
entry_slots (Class k) h = one_slot (Class k) h
entry_slots (Text k) h = one_slot (Text k) h
entry_slots (Field k m) h = one_slot (Field k m) h
entry_slots (Method k m) h = one_slot (Method k m) h
entry_slots (InterfaceMethod k m) h = one_slot (InterfaceMethod k m) h
entry_slots (NameAndType k m) h = one_slot (NameAndType k m) h
entry_slots (Handle k m) h = one_slot (Handle k m) h
entry_slots (MethodType k) h = one_slot (MethodType k) h
entry_slots (Dynamic k m) h = one_slot (Dynamic k m) h

all_slots : (es : List Entry) → All HasText es → All SlotText (flat_map slots_of es)
all_slots [] h = All-nil SlotText
all_slots (e ∷ es) h = rw flat_map-cons (All-append SlotText (slots_of e) (flat_map slots_of es) (entry_slots e (All-head HasText e es h)) (all_slots es (All-tail HasText e es h)))

text_in : (e : Entry) (bytes : List ℕ) → HasText e → as_text e ≡ Some bytes → SpellText bytes
text_in (Utf8 text) bytes h is = let same : text ≡ bytes = cc in subst (λ (z : List ℕ). SpellText z) same h.1
text_in e bytes h is = absurd cc

slot_text : (p : Pool) (i : ℕ) (o : Option (Option Entry)) (bytes : List ℕ) → All SlotText p → slice_get p i ≡ o → option_and_then as_text (slot_entry o) ≡ Some bytes → SpellText bytes
slot_text p i None bytes all at is = absurd cc
slot_text p i (Some None) bytes all at is = absurd cc
slot_text p i (Some (Some e)) bytes all at is =
    let slot : Option Entry = Some e in
    let has : SlotText slot = subst (λ (z : Option Entry). SlotText z) (get_or_from_slice_get p i slot slot at) (All-get_or SlotText p i slot (slice_get_within p i slot at) all) in
    text_in e bytes has is

named_text : (p : Pool) (k : ℕ) (b : Bool) (bytes : List ℕ) → All SlotText p → option_and_then as_text (cond b None (slot_entry (slice_get p (k - 1)))) ≡ Some bytes → SpellText bytes
named_text p k true bytes all is = absurd cc
named_text p k false bytes all is = slot_text p (k - 1) (slice_get p (k - 1)) bytes all refl is

-- the bytes of a Utf8 entry are a text
bytes_shaped : (p : Pool) (text : List ℕ) (k : ℕ) (bytes : List ℕ) → IsPool text p → NamesBytes p k bytes → SpellText bytes
bytes_shaped p text k bytes h is = named_text p k (k == 0) bytes (subst (λ (z : Pool). All SlotText z) (sym h.indices) (all_slots h.entries h.texts)) is

-- ---- members, and the class

field_shaped : (p : Pool) (text : List ℕ) (field : FieldDef) → IsField p text field → ShapedField field
field_shaped p text field h = h.typed.2.2.in_grammar

method_shaped : (p : Pool) (class : List ℕ) → IsClassName class → (text : List ℕ) (method : MethodDef) → IsMethod IsCodeContent p class text method → ShapedMethod method
method_shaped p class name text method h =
    let desc = h.typed.2.2.in_grammar in
    let found = h.attributes_are in
    record {
      desc = desc;
      code = of_one (IsCodeContent p class (head_of method)) ShapedCode (λ content code is. code_shaped p class (head_of method) content code name desc is) (contents code_name found.attributes) method.code found.first_is;
    }

class_shaped : (bytes : List ℕ) (class : ClassDef) → IsClassFile bytes class → IsClassName class.name → Shaped class
class_shaped bytes class h name =
    let p = h.pool in
    let body = h.body_is in
    let found = body.attributes_are in
    record {
      fields = of_each (IsField p) ShapedField (field_shaped p) body.fields_are.rest class.fields body.fields_are.each_is;
      methods = of_each (IsMethod IsCodeContent p class.name) ShapedMethod (method_shaped p class.name name) body.methods_are.rest class.methods body.methods_are.each_is;
      source = of_one (IsSourceFile p) SpellText (λ content source is. bytes_shaped p h.pool_text is.0 source h.pool_is is.2) (contents source_file found.attributes) class.source found.first_is;
    }

pub read_shaped : (bytes : List ℕ) (r : Result ClassDef BadClass) → IfOk r (λ class. IsClassFile bytes class) → IfOk r (λ class. IsClassName class.name → Shaped class)
read_shaped bytes (Ok class) h = class_shaped bytes class h
read_shaped bytes (Err stop) h = tt
