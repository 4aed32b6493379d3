-- A step of the machine. It is one instruction, or the beginning of one class together with those of its superclasses
-- that have not begun, or one of the root frame's own steps. One definition serves both machines: `plain` and `tagged` of
-- the tags are its instances.
use Rattle.std.specs.Prelude.{ℕ, zero, suc, ◌+◌, ◌-ℤ◌, ℤ, pos, negsuc, Bool, true, false, List, [], ◌∷◌, ◌++◌, replicate, Option, Some, None, is_none, slice_get, slice_set, unwrap_or, if◌then◌else◌}
use Rattle.std.specs.Int.{w32, int_wrapping_add}
use Rattle.class_model.specs.declared.types.MethodRef.{MethodRef}
use Rattle.class_model.specs.declared.insn.Kind.{Kind}
use Rattle.class_model.specs.declared.insn.InvokeKind.{InvokeKind}
use Rattle.class_model.specs.declared.insn.InvokeKind.TheVariants as invoke
use Rattle.class_model.specs.declared.insn.Insn.{Insn}
use Rattle.class_model.specs.declared.insn.Insn.TheVariants as insn
use Rattle.run_state.specs.Texts.{same_text, string_array}
use Rattle.run_state.specs.Numbers.{number_of, shifted, negated, converted, taken_width, given_width, compared, is_same, holds}
use Rattle.run_state.specs.Words.{Word, Empty, Num, Long, Half, Null, Ref, pushed, stored, shuffled}
use Rattle.run_state.specs.State.{Method, Frame, Item, Areas, Phase, Begins, Makes, Calls, Waits, Outside, Ending, Running, Returned, Exit, Uncaught, InitFailed, Stuck, State, live, rooted}
use Rattle.run_state.specs.Looks.{Looks, Static}
use Rattle.run_state.specs.Tags.{Tags}
use Rattle.run_state.specs.Operands.{either, stuck, on_some, on_int, on_long, on_number, on_ref, on_kind, is_int, of_kind, with_args, dividing, number, place_of, same_place, agrees}
use Rattle.run_state.specs.Marks.{tags_of}
use Rattle.run_state.specs.Unwinding.{fresh_object, with_item, throws, arithmetic_exception}
use Rattle.run_state.specs.Objects.{primitive_array, array_of, making, getting, putting, literal, getting_static, putting_static, making_array, nesting, measuring, loading, storing, throwing, casting, asking, calling_virtual, calling_interface, calling_special}
use Rattle.run_state.specs.Calls.{said, entered, called, left, given_back}

-- the target of tableswitch, from what the number is above the lowest
abbrev pub table_target : List ℕ → ℕ → ℤ → ℕ
table_target targets default (pos n) = unwrap_or (slice_get targets n) default
table_target targets default (negsuc n) = default

-- the target of lookupswitch
abbrev pub row_target : List (ℤ × ℕ) → ℕ → ℤ → ℕ
row_target [] default v = default
row_target (r ∷ rs) default v = if is_same r.0 v then r.1 else row_target rs default v

module _ {T : Type 0} (M : Tags T) (L : Looks) where
  -- a call (JVMS 6.5, invokestatic; the others are the rows of objects)
  abbrev pub invoking : InvokeKind → MethodRef → Outside → Areas T → Method → ℕ → List (Word T) → List (Word T) → List (Frame T) → State T
  invoking invoke.Static ref o ar m pc ls st fs =
      on_some o ar (L.method ref) (λ callee. with_args o ar callee.params st [] (λ args rest. called M L callee args o ar m pc ls rest fs))
  invoking invoke.Special ref o ar m pc ls st fs = calling_special M L o ar m pc ls fs ref st
  invoking invoke.Virtual ref o ar m pc ls st fs = calling_virtual M L o ar m pc ls fs ref st
  invoking invoke.Interface ref o ar m pc ls st fs = calling_interface M L o ar m pc ls fs ref st

  -- a return (JVMS 6.5, return to areturn)
  abbrev pub returning : Option Kind → Outside → Areas T → Method → List (Word T) → List (Frame T) → State T
  returning None o ar m st fs = left o ar fs
  returning (Some k) o ar m st fs = on_kind o ar k st (λ w rest. given_back M L m w o ar fs)

  -- One instruction, by the parts of its frame: the instruction's number, the locals, the stack, and the frames below. What
  -- a row does is the instruction's in JVMS 6.5; the tag that it gives is this project's own.
  abbrev pub act : Option Insn → Outside → Areas T → Method → ℕ → List (Word T) → List (Word T) → List (Frame T) → State T
  act None o ar m pc ls st fs = stuck o ar
  -- nop, and constants (aconst_null, iconst to ldc2_w): no tag
  act (Some insn.Nop) o ar m pc ls st fs = live o ar m (pc + 1) ls st fs
  act (Some insn.PushNull) o ar m pc ls st fs = live o ar m (pc + 1) ls (Null ∷ st) fs
  act (Some (insn.PushInt v)) o ar m pc ls st fs = live o ar m (pc + 1) ls (Num v M.none ∷ st) fs
  act (Some (insn.PushLong v)) o ar m pc ls st fs = live o ar m (pc + 1) ls (Half ∷ Long v M.none ∷ st) fs
  -- loads, stores and the stack operations: the tag goes with its value
  act (Some (insn.Load k i)) o ar m pc ls st fs =
      on_some o ar (slice_get ls i) (λ w. of_kind o ar k w (λ x. live o ar m (pc + 1) ls (pushed x st) fs))
  act (Some (insn.Store k i)) o ar m pc ls st fs = on_kind o ar k st (λ w rest. live o ar m (pc + 1) (stored ls i w) rest fs)
  act (Some (insn.Stack op)) o ar m pc ls st fs = on_some o ar (shuffled op st) (λ rest. live o ar m (pc + 1) ls rest fs)
  -- arithmetic and shifts: the or of both tags; a division by 0 throws
  act (Some (insn.Bin w op)) o ar m pc ls st fs =
      on_number o ar w st (λ b u st1. on_number o ar w st1 (λ a t rest.
      dividing op b (throws M L o ar arithmetic_exception fs m pc ls)
      (live o ar m (pc + 1) ls (pushed (number w (number_of w op a b) (M.join t u)) rest) fs)))
  act (Some (insn.Shift w op)) o ar m pc ls st fs =
      on_int o ar st (λ b u st1. on_number o ar w st1 (λ a t rest.
      live o ar m (pc + 1) ls (pushed (number w (shifted w op a b) (M.join t u)) rest) fs))
  -- ineg, iinc and conversions keep the tag; lcmp has the or of both
  act (Some (insn.Neg w)) o ar m pc ls st fs =
      on_number o ar w st (λ a t rest. live o ar m (pc + 1) ls (pushed (number w (negated w a) t) rest) fs)
  act (Some (insn.Iinc i step)) o ar m pc ls st fs =
      on_some o ar (slice_get ls i) (λ w. is_int o ar w (λ v t. live o ar m (pc + 1) (slice_set ls i (Num (int_wrapping_add w32 v step) t)) st fs))
  act (Some (insn.Convert c)) o ar m pc ls st fs =
      on_number o ar (taken_width c) st (λ a t rest. live o ar m (pc + 1) ls (pushed (number (given_width c) (converted c a) t) rest) fs)
  act (Some insn.Lcmp) o ar m pc ls st fs =
      on_long o ar st (λ b u st1. on_long o ar st1 (λ a t rest. live o ar m (pc + 1) ls (Num (compared a b) (M.join t u) ∷ rest) fs))
  -- branches and switches: no tag is followed through a condition
  act (Some (insn.If c target)) o ar m pc ls st fs =
      on_int o ar st (λ v t rest. live o ar m (either (holds c v (pos 0)) target (pc + 1)) ls rest fs)
  act (Some (insn.IfInt c target)) o ar m pc ls st fs =
      on_int o ar st (λ b u st1. on_int o ar st1 (λ a t rest. live o ar m (either (holds c a b) target (pc + 1)) ls rest fs))
  act (Some (insn.IfRef same target)) o ar m pc ls st fs =
      on_ref o ar st (λ y st1. on_ref o ar st1 (λ x rest. live o ar m (either (agrees same (same_place (place_of x) (place_of y))) target (pc + 1)) ls rest fs))
  act (Some (insn.IfNull null target)) o ar m pc ls st fs =
      on_ref o ar st (λ x rest. live o ar m (either (agrees null (is_none (place_of x))) target (pc + 1)) ls rest fs)
  act (Some (insn.Goto target)) o ar m pc ls st fs = live o ar m target ls st fs
  act (Some (insn.TableSwitch low default targets)) o ar m pc ls st fs =
      on_int o ar st (λ v t rest. live o ar m (table_target targets default (v -ℤ low)) ls rest fs)
  act (Some (insn.LookupSwitch default rows)) o ar m pc ls st fs =
      on_int o ar st (λ v t rest. live o ar m (row_target rows default v) ls rest fs)
  -- calls and returns: a listed sink reports, a listed source marks
  act (Some (insn.Return k)) o ar m pc ls st fs = returning k o ar m st fs
  act (Some (insn.Invoke k ref)) o ar m pc ls st fs = invoking k ref o ar m pc ls st fs
  -- literals, fields and elements: the tag of what was put there; a length and instanceof have none
  act (Some (insn.PushString text)) o ar m pc ls st fs = literal M L o ar m pc ls fs text st
  act (Some (insn.GetStatic f)) o ar m pc ls st fs = getting_static M L o ar m pc ls fs f st
  act (Some (insn.PutStatic f)) o ar m pc ls st fs = putting_static M L o ar m pc ls fs f st
  act (Some (insn.GetField f)) o ar m pc ls st fs = getting M L o ar m pc ls fs f st
  act (Some (insn.PutField f)) o ar m pc ls st fs = putting M L o ar m pc ls fs f st
  act (Some (insn.New c)) o ar m pc ls st fs = making M L o ar m pc ls fs (fresh_object M L c) st
  act (Some (insn.NewArray p)) o ar m pc ls st fs = making_array M L o ar m pc ls fs (primitive_array p) st
  act (Some (insn.ANewArray ty)) o ar m pc ls st fs = making_array M L o ar m pc ls fs (array_of ty) st
  act (Some (insn.MultiNewArray ty n)) o ar m pc ls st fs = nesting M L o ar m pc ls fs ty n st
  act (Some insn.ArrayLength) o ar m pc ls st fs = measuring M L o ar m pc ls fs st
  act (Some (insn.ArrayLoad e)) o ar m pc ls st fs = loading M L o ar m pc ls fs st
  act (Some (insn.ArrayStore e)) o ar m pc ls st fs = storing M L o ar m pc ls fs e st
  act (Some insn.Athrow) o ar m pc ls st fs = throwing M L o ar m pc ls fs st
  act (Some (insn.CheckCast ty)) o ar m pc ls st fs = casting M L o ar m pc ls fs ty st
  act (Some (insn.InstanceOf ty)) o ar m pc ls st fs = asking M L o ar m pc ls fs ty st

module _ (L : Looks) where
  abbrev pub starts_of : Option Method → List Method
  starts_of None = []
  starts_of (Some callee) = L.starts callee.class

  -- The initializers of the class that an instruction needs begun, and of its superclasses (JVMS 5.5): new needs its class,
  -- getstatic and putstatic the class that declares the field, invokestatic the one that declares the method.
  abbrev pub static_needs : Option Static → List Method
  static_needs None = []
  static_needs (Some s) = L.starts s.class

  abbrev pub call_needs : InvokeKind → MethodRef → List Method
  call_needs invoke.Static ref = starts_of (L.method ref)
  call_needs invoke.Special ref = []
  call_needs invoke.Virtual ref = []
  call_needs invoke.Interface ref = []

  abbrev pub needs_of : Option Insn → List Method
  needs_of (Some (insn.Invoke k ref)) = call_needs k ref
  needs_of (Some (insn.New c)) = L.starts c
  needs_of (Some (insn.GetStatic f)) = static_needs (L.static f)
  needs_of (Some (insn.PutStatic f)) = static_needs (L.static f)
  needs_of _ = []

-- whether a class is among those that have begun
abbrev pub has_begun : List (List ℕ) → Option (List ℕ) → Bool
has_begun begun None = true
has_begun [] (Some c) = false
has_begun (k ∷ ks) (Some c) = either (same_text k c) true (has_begun ks (Some c))

-- those of the initializers whose classes have not begun
abbrev pub to_start : List (List ℕ) → List Method → List Method
to_start begun [] = []
to_start begun (m ∷ ms) = either (has_begun begun m.begins) (to_start begun ms) (m ∷ to_start begun ms)

abbrev pub named : Option (List ℕ) → List (List ℕ) → List (List ℕ)
named None cs = cs
named (Some c) cs = c ∷ cs

abbrev pub classes_of : List Method → List (List ℕ)
classes_of [] = []
classes_of (m ∷ ms) = named m.begins (classes_of ms)

-- the frame of an initializer
abbrev pub fresh_frame : {T : Type 0} → Method → Frame T
fresh_frame m = record { method = m; next = 0; locals = replicate m.locals Empty; stack = [] }

-- their frames, the last of them on top
abbrev pub with_frames : {T : Type 0} → List Method → List (Frame T) → List (Frame T)
with_frames [] fs = fs
with_frames (m ∷ ms) fs = with_frames ms (fresh_frame m ∷ fs)

-- The classes begin, all of them marked at once, and what needed them is tried again after; or, where there is none
-- to begin, it is done.
abbrev pub beginning : {T : Type 0} → List Method → Outside → Areas T → List (Frame T) → State T → State T
beginning [] o ar fs done = done
beginning (m ∷ ms) o ar fs done =
    record { frames = with_frames (m ∷ ms) fs; areas = ar; outside = record o { begun = classes_of (m ∷ ms) ++ o.begun }; ending = Running }

-- The root frame's own steps: the first begins the main class, the second makes a String array of length 0, the third
-- calls `main` with it. The array is then the heap's newest item.
abbrev pub newest : {T : Type 0} → List (Item T) → ℕ → ℕ
newest [] at = at
newest (x ∷ []) at = at
newest (x ∷ xs) at = newest xs (at + 1)

abbrev pub empty_array : {T : Type 0} → Tags T → Item T
empty_array M = record { ty = string_array; own = M.none; cells = [] }

module _ {T : Type 0} (M : Tags T) (L : Looks) where
  abbrev pub calling_main : Method → List (Word T) → Outside → Areas T → State T
  calling_main main args o ar = entered (said o (M.entered main (tags_of M L ar.heap args))) ar main args []

  abbrev pub root_step : Phase → Outside → Areas T → State T
  root_step Begins o ar =
      beginning (to_start o.begun (starts_of L L.main)) (record o { phase = Makes }) ar []
      (rooted (record o { phase = Makes }) ar)
  root_step Makes o ar = rooted (record o { phase = Calls }) (with_item ar (empty_array M))
  root_step Calls o ar = on_some o ar L.main (λ main. calling_main main (Ref (newest ar.heap 0) ∷ []) (record o { phase = Waits }) ar)
  root_step Waits o ar = stuck o ar

  -- the root frame's turn, or the turn of the top frame
  abbrev pub turn : List (Frame T) → Outside → Areas T → State T
  turn [] o ar = root_step o.phase o ar
  turn (f ∷ fs) o ar =
      beginning (to_start o.begun (needs_of L (slice_get f.method.code f.next))) o ar (f ∷ fs)
      (act M L (slice_get f.method.code f.next) o ar f.method f.next f.locals f.stack fs)

  -- an ended run makes no further step
  abbrev pub going : Ending → State T → State T
  going Running s = turn s.frames s.outside s.areas
  going Returned s = s
  going (Exit k) s = s
  going (Uncaught c) s = s
  going (InitFailed k c) s = s
  going Stuck s = s

  abbrev pub step : State T → State T
  step s = going s.ending s

  -- n steps
  abbrev pub run : ℕ → State T → State T
  run zero s = s
  run (suc n) s = run n (step s)
