-- Worked examples: small programs with class beginning, throws, longs, arrays and calls on objects.
use Rattle.std.specs.Prelude.{ℕ, ℤ, pos, negsuc, List, [], ◌∷◌, Some, None, codes}
use Rattle.class_model.specs.declared.types.Primitive.TheVariants as primitive
use Rattle.class_model.specs.declared.types.BaseType.TheVariants as base
use Rattle.class_model.specs.declared.insn.Kind.TheVariants as kind
use Rattle.class_model.specs.declared.insn.Width.TheVariants as width
use Rattle.class_model.specs.declared.insn.Elem.TheVariants as elem
use Rattle.class_model.specs.declared.insn.BinOp.TheVariants as operation
use Rattle.class_model.specs.declared.insn.Conv.TheVariants.{IntLong, LongInt}
use Rattle.class_model.specs.declared.insn.StackOp.TheVariants.{Pop, Dup2X2}
use Rattle.class_model.specs.declared.insn.InvokeKind.TheVariants as invoke
use Rattle.class_model.specs.declared.insn.Insn.{Insn}
use Rattle.class_model.specs.declared.insn.Insn.TheVariants.{PushInt, PushLong, Load, Store, ArrayLoad, ArrayStore, Stack, Bin, Convert, Return, Invoke, New, NewArray, MultiNewArray}
use Rattle.class_model.specs.declared.class.MethodDef.{MethodDef}
use Rattle.class_model.specs.declared.class.ClassDef.{ClassDef}
use Rattle.run_state.specs.declared.config.Config.{Config}
use Rattle.run_state.specs.declared.report.Report.{Report}
use Rattle.run_state.specs.Texts.{object_name, initializer_name, initializer_desc}
use Rattle.run_state.specs.Natives.{Write, ArrayCopy}
use Rattle.run_state.specs.Unwinding.{arithmetic_exception}
use Rattle.run_state.specs.ExampleClasses.{class_with, code_with, static_method, native_method, ref_to, call, gives_nothing, takes_int, call_letter, letter_sources, sink_with, set_with}

-- `main` calls `K.f`, which writes `f`; the initializer of `K` is given
abbrev pub class_k : List Insn → ClassDef
class_k initializer =
    class_with (codes "K") (Some object_name)
    (static_method initializer_name initializer_desc initializer []
    ∷ static_method (codes "f") gives_nothing (PushInt (pos 102) ∷ call Write ∷ Return None ∷ []) [] ∷ [])

abbrev pub calls_k : List Insn → List ClassDef
calls_k initializer = set_with (Invoke invoke.Static (ref_to (codes "K") (codes "f") gives_nothing) ∷ Return None ∷ []) [] (class_k initializer ∷ [])

-- the initializer writes `k`; or it divides by 0
abbrev pub begins_k : List ClassDef
begins_k = calls_k (PushInt (pos 107) ∷ call Write ∷ Return None ∷ [])

abbrev pub fails_to_begin : List ClassDef
fails_to_begin = calls_k (PushInt (pos 1) ∷ PushInt (pos 0) ∷ Bin width.Int operation.Div ∷ Return None ∷ [])

-- `a` as a long in local 1, which a try divides by 0; the handler writes it
abbrev pub divides_in_a_try : List ClassDef
divides_in_a_try =
    set_with
    (call_letter (codes "a") ∷ Convert IntLong ∷ Store kind.Long 1
    ∷ Load kind.Long 1 ∷ PushLong (pos 0) ∷ Bin width.Long operation.Div ∷ Return None
    ∷ Stack Pop ∷ Load kind.Long 1 ∷ Convert LongInt ∷ call Write ∷ Return None ∷ [])
    (record { start = 3; end = 6; target = 7; caught = Some arithmetic_exception } ∷ [])
    (class_with arithmetic_exception (Some object_name) [] ∷ [])

-- dup2_x2 on four ints, and on a long on top of two ints
abbrev pub four_ints : List ClassDef
four_ints =
    set_with
    (call_letter (codes "a") ∷ call_letter (codes "b") ∷ call_letter (codes "c") ∷ call_letter (codes "d") ∷ Stack Dup2X2
    ∷ call Write ∷ call Write ∷ call Write ∷ call Write ∷ call Write ∷ call Write ∷ Return None ∷ [])
    [] []

abbrev pub long_on_ints : List ClassDef
long_on_ints =
    set_with
    (call_letter (codes "a") ∷ call_letter (codes "b") ∷ call_letter (codes "c") ∷ Convert IntLong ∷ Stack Dup2X2
    ∷ Convert LongInt ∷ call Write ∷ call Write ∷ call Write ∷ Convert LongInt ∷ call Write ∷ Return None ∷ [])
    [] []

-- `new int[0][-1]`
abbrev pub negative_size : List ClassDef
negative_size =
    set_with (PushInt (pos 0) ∷ PushInt (negsuc 0) ∷ MultiNewArray (record { depth = 2; base = base.Primitive primitive.Int }) 2 ∷ Return None ∷ []) [] []

-- a char array of `a`, `b`, `c` and `d` in local 1, moved up by one place; then its elements are written
abbrev pub put_letter : ℤ → List ℕ → List Insn → List Insn
put_letter i name insns = Load kind.Ref 1 ∷ PushInt i ∷ call_letter name ∷ ArrayStore elem.Char ∷ insns

abbrev pub write_element : ℤ → List Insn → List Insn
write_element i insns = Load kind.Ref 1 ∷ PushInt i ∷ ArrayLoad elem.Char ∷ call Write ∷ insns

abbrev pub moves_elements : List ClassDef
moves_elements =
    set_with
    (PushInt (pos 4) ∷ NewArray primitive.Char ∷ Store kind.Ref 1
    ∷ put_letter (pos 0) (codes "a") (put_letter (pos 1) (codes "b") (put_letter (pos 2) (codes "c") (put_letter (pos 3) (codes "d")
    (Load kind.Ref 1 ∷ PushInt (pos 0) ∷ Load kind.Ref 1 ∷ PushInt (pos 1) ∷ PushInt (pos 3) ∷ call ArrayCopy
    ∷ write_element (pos 0) (write_element (pos 1) (write_element (pos 2) (write_element (pos 3) (Return None ∷ [])))))))))
    [] (class_with (codes "java/lang/System") (Some object_name) (native_method ArrayCopy ∷ []) ∷ [])

-- `P.m(I)V`, overridden by `Q.m(I)V`, is called on a new `Q`; both are sinks
abbrev pub instance_method : List ℕ → MethodDef
instance_method name = record { flags = 0x0001; name = name; desc = takes_int; throws = []; code = Some (code_with (Return None ∷ []) []) }

abbrev pub calls_override : List ClassDef
calls_override =
    set_with (New (codes "Q") ∷ call_letter (codes "a") ∷ Invoke invoke.Virtual (ref_to (codes "P") (codes "m") takes_int) ∷ Return None ∷ []) []
    (class_with (codes "P") (Some object_name) (instance_method (codes "m") ∷ []) ∷ class_with (codes "Q") (Some (codes "P")) (instance_method (codes "m") ∷ []) ∷ [])

abbrev pub override_lists : Config
override_lists = record { sources = letter_sources; sinks = sink_with (codes "P") (codes "m") takes_int ∷ sink_with (codes "Q") (codes "m") takes_int ∷ [] }

abbrev pub override_reports : List Report
override_reports = record { sink = pos 1; argument = pos 0; tag = pos 0 } ∷ record { sink = pos 1; argument = pos 1; tag = pos 1 } ∷ []
