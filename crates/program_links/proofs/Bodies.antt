-- Methods that are linked, part by part.
use Rattle.std.proofs.Common.{◌≡◌, ◌∙◌, ℤ, not, List, [], length, sym, subst, Some, None}
use Rattle.class_model.specs.declared.class.CodeDef.{CodeDef}
use Rattle.class_model.specs.declared.class.MethodDef.{MethodDef}
use Rattle.class_model.specs.declared.class.ClassDef.{ClassDef}
use Rattle.class_model.specs.Descriptor.{words_of}
use Rattle.set_lookups.specs.Above.{find_class}
use Rattle.run_state.specs.Calls.{narrowed_result}
use Rattle.run_state.specs.SetLooks.{method_of, is_static}
use Rattle.linked_code.specs.declared.op.Op.{Op}
use Rattle.linked_code.specs.declared.program.Handler.{Handler as LinkedHandler}
use Rattle.linked_code.specs.Kept.{kept_by}
use Rattle.linked_code.specs.declared.program.Method.{Method as LinkedMethod}
use Rattle.program_links.specs.declared.methods.Body.{Body}
use Rattle.program_links.specs.Numbers.{Numbers}
use Rattle.program_links.specs.Each.{EachTo}
use Rattle.program_links.specs.CodeSoFar.{CodeTo}
use Rattle.program_links.specs.BodyTo.{BodyTo}
use Rattle.program_links.specs.MethodTo.{HandlerTo, NameTo, NativeTo, MethodTo}
use Rattle.program_links.proofs.CodeLinked.{no_code}
use Rattle.program_links.proofs.EachMore.{each_none}

pub no_body : (set : List ClassDef) (t : Numbers) (body : Body) → body.locals ≡ 0 → body.code ≡ [] → body.handlers ≡ [] → BodyTo set t None body
no_body set t body l c h = record {
  locals = sym l;
  insns = subst (λ (ops : List Op). CodeTo set t [] ops 0) (sym c) (no_code set t []);
  handlers = subst (λ (hs : List LinkedHandler). EachTo (HandlerTo set) [] hs 0) (sym h) (each_none (HandlerTo set) []);
}

pub one_body : (set : List ClassDef) (t : Numbers) (code : CodeDef) (body : Body) → body.locals ≡ code.max_locals → CodeTo set t code.insns body.code (length code.insns) → EachTo (HandlerTo set) code.handlers body.handlers (length code.handlers) → BodyTo set t (Some code) body
one_body set t code body l c h = record { locals = sym l; insns = c; handlers = h }

pub method_linked : (set : List ClassDef) (t : Numbers) (class : ClassDef) (d : MethodDef) (m : LinkedMethod) (body : Body) → find_class set class.name ≡ Some m.class → words_of d.desc (not (is_static d.flags)) ≡ m.params → BodyTo set t d.code body → body.locals ≡ m.locals → body.code ≡ m.code → body.handlers ≡ m.handlers → NativeTo (method_of class d).native m.native → NameTo set (method_of class d).begins m.begins → ((v : ℤ) → narrowed_result d.desc.result v ≡ kept_by m.narrowing v) → MethodTo set t (method_of class d) m
method_linked set t class d m body named params b l c h native begins result = record {
  class = named;
  params = params;
  locals = b.locals ∙ l;
  code = subst (λ (ops : List Op). CodeTo set t (method_of class d).code ops (length (method_of class d).code)) c b.insns;
  handlers = subst (λ (hs : List LinkedHandler). EachTo (HandlerTo set) (method_of class d).handlers hs (length (method_of class d).handlers)) h b.handlers;
  native = native;
  begins = begins;
  result = result;
}
