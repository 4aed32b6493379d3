-- Each method of a closed set can be linked.
use Rattle.std.proofs.Common.{◌≡◌, ℕ, List, [], ◌++◌, length, refl, ap, Option, Some, None}
use Rattle.std.specs.Prelude.{slice_get, flat_map, is_none, option_to_list}
use Rattle.std.proofs.lemmas.Option.{none-some}
use Rattle.class_model.specs.declared.insn.Insn.{Insn}
use Rattle.class_model.specs.declared.class.Handler.{Handler}
use Rattle.class_model.specs.declared.class.CodeDef.{CodeDef}
use Rattle.class_model.specs.declared.class.MethodDef.{MethodDef}
use Rattle.class_model.specs.declared.class.ClassDef.{ClassDef}
use Rattle.set_lookups.specs.Above.{find_class}
use Rattle.set_lookups.specs.Needed.{missing, if_missing, needed, one_name, desc_names, field_names, handler_names, row_names, insn_names, code_names, method_names}
use Rattle.set_lookups.proofs.Lists.{at_left, at_right}
use Rattle.class_set.specs.Closed.{Closed}
use Rattle.class_set.specs.References.{code_insns}
use Rattle.run_state.specs.State.{Method}
use Rattle.run_state.specs.SetLooks.{code_of, handlers_of}
use Rattle.linked_code.specs.declared.program.Method.{Method as LinkedMethod}
use Rattle.program_links.specs.Numbers.{Numbers, Grows}
use Rattle.program_links.specs.CodeSoFar.{AreReady}
use Rattle.program_links.specs.Each.{EachTo}
use Rattle.program_links.specs.BodyTo.{CanLink}
use Rattle.program_links.specs.MethodTo.{IsNamed, AreNamed, MethodTo}
use Rattle.program_links.proofs.ClosedReady.{ready, in_flat, told_by, found_by, none_along}
use Rattle.program_links.proofs.CodeLinked.{code_grows}

-- its instructions
in_code : (code : Option CodeDef) (pc : ℕ) (i : Insn) → slice_get (code_of code) pc ≡ Some i → (k : ℕ) × (slice_get (flat_map (λ (c : CodeDef). c.insns) (option_to_list code)) k ≡ Some i)
in_code None pc i h = absurd (none-some i h)
in_code (Some code) pc i h = (pc, at_left code.insns [] pc i h)

insns_ready : (set : List ClassDef) (number index : ℕ) (class : ClassDef) (d : MethodDef) → Closed set → slice_get set number ≡ Some class → slice_get class.methods index ≡ Some d → AreReady set (code_of d.code)
insns_ready set number index class d closed there at pc i h =
    let own = in_code d.code pc i h in
    let all = in_flat code_insns class.methods index own.0 d i at own.1 in
    ready set number i closed (record { class = class; there = there; place = all.0; at = all.1 })

-- its handlers
caught_name : (set : List ClassDef) (number index k : ℕ) (class : ClassDef) (d : MethodDef) (code : CodeDef) (h : Handler) (name : List ℕ) → slice_get set number ≡ Some class → slice_get class.methods index ≡ Some d → d.code ≡ Some code → slice_get code.handlers k ≡ Some h → slice_get (handler_names h) 0 ≡ Some name → (l : ℕ) × (slice_get (flat_map needed set) l ≡ Some name)
caught_name set number index k class d code h name there at has handler first =
    let named = in_flat handler_names code.handlers k 0 h name handler first in
    let front = at_left (flat_map handler_names code.handlers) (flat_map row_names code.frames) named.0 name named.1 in
    let of_code = at_right (flat_map insn_names code.insns) (flat_map handler_names code.handlers ++ flat_map row_names code.frames) named.0 name front in
    let of_codes = in_flat code_names (option_to_list d.code) 0 of_code.0 code name (ap (λ c. slice_get (option_to_list c) 0) has) of_code.1 in
    let of_method = at_right (desc_names d.desc) (flat_map code_names (option_to_list d.code)) of_codes.0 name of_codes.1 in
    let of_methods = in_flat method_names class.methods index of_method.0 d name at of_method.1 in
    let more = at_right (flat_map field_names class.fields) (flat_map method_names class.methods) of_methods.0 name of_methods.1 in
    let upper = at_right (flat_map one_name class.interfaces) (flat_map field_names class.fields ++ flat_map method_names class.methods) more.0 name more.1 in
    let all = at_right (flat_map one_name (option_to_list class.super_name)) (flat_map one_name class.interfaces ++ (flat_map field_names class.fields ++ flat_map method_names class.methods)) upper.0 name upper.1 in
    in_flat needed set number all.0 class name there all.1

pub name_there : (set : List ClassDef) (l : ℕ) (name : List ℕ) → Closed set → slice_get (flat_map needed set) l ≡ Some name → (n : ℕ) × (find_class set name ≡ Some n)
unfolding missing
name_there set l name closed at = found_by (find_class set name) (told_by (is_none (find_class set name)) name (none_along (if_missing set) (flat_map needed set) l name closed.present at))

caught_by : (set : List ClassDef) (number index k : ℕ) (class : ClassDef) (d : MethodDef) (code : CodeDef) (h : Handler) (caught : Option (List ℕ)) → Closed set → slice_get set number ≡ Some class → slice_get class.methods index ≡ Some d → d.code ≡ Some code → slice_get code.handlers k ≡ Some h → h.caught ≡ caught → IsNamed set caught
caught_by set number index k class d code h None closed there at has handler e = tt
caught_by set number index k class d code h (Some name) closed there at has handler e =
    let place = caught_name set number index k class d code h name there at has handler (ap (λ c. slice_get (flat_map one_name (option_to_list c)) 0) e) in
    name_there set place.0 name closed place.1

handlers_by : (set : List ClassDef) (number index : ℕ) (class : ClassDef) (d : MethodDef) (code : Option CodeDef) → Closed set → slice_get set number ≡ Some class → slice_get class.methods index ≡ Some d → d.code ≡ code → AreNamed set (handlers_of code)
handlers_by set number index class d None closed there at e k h handler = absurd (none-some h handler)
handlers_by set number index class d (Some code) closed there at e k h handler = caught_by set number index k class d code h h.caught closed there at e handler refl

pub can_link : (set : List ClassDef) (number index : ℕ) (class : ClassDef) (d : MethodDef) → Closed set → slice_get set number ≡ Some class → slice_get class.methods index ≡ Some d → CanLink set d.code
can_link set number index class d closed there at = record {
  insns = insns_ready set number index class d closed there at;
  handlers = handlers_by set number index class d d.code closed there at refl;
}

-- methods while the tables grow
method_grows : (set : List ClassDef) (t s : Numbers) (d : Method) (m : LinkedMethod) → Grows t s → MethodTo set t d m → MethodTo set s d m
method_grows set t s d m g h = record {
  class = h.class;
  params = h.params;
  locals = h.locals;
  code = code_grows set t s d.code m.code (length d.code) h.code g;
  handlers = h.handlers;
  native = h.native;
  begins = h.begins;
  result = h.result;
}

pub methods_grow : (set : List ClassDef) (t s : Numbers) (ds : List Method) (ms : List LinkedMethod) (count : ℕ) → Grows t s → EachTo (MethodTo set t) ds ms count → EachTo (MethodTo set s) ds ms count
methods_grow set t s ds ms count g each = record {
  many = each.many;
  each = λ k d lt e. let has = each.each k d lt e in record { item = has.item; at = has.at; is = method_grows set t s d has.item g has.is };
}
