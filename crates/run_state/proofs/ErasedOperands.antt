-- What an instruction takes, throws, calls and class beginning under a map of tags, whatever was reported before.
use Rattle.std.proofs.Common.{◌≡◌, ℕ, zero, suc, ◌-◌, ℤ, Bool, true, false, List, [], ◌∷◌, ◌++◌, Option, Some, None, refl, ap, ◌∙◌}
use Rattle.std.specs.Prelude.{replicate, option_map}
use Rattle.std.proofs.lemmas.List.{map-append}
use Rattle.class_model.specs.declared.insn.Kind.{Kind}
use Rattle.class_model.specs.declared.insn.Kind.TheVariants as kind
use Rattle.class_model.specs.declared.insn.Width.{Width}
use Rattle.class_model.specs.declared.insn.Width.TheVariants as width
use Rattle.class_model.specs.declared.insn.BinOp.{BinOp}
use Rattle.class_model.specs.declared.insn.BinOp.TheVariants as operation
use Rattle.run_state.specs.declared.report.Report.{Report}
use Rattle.run_state.specs.Words.{Word, Empty, Num, Long, Half, Null, Ref}
use Rattle.run_state.specs.State.{Method, Frame, Areas, Phase, Begins, Makes, Calls, Waits, Outside, Running, State, live}
use Rattle.run_state.specs.Looks.{Looks}
use Rattle.run_state.specs.Operands.{either, on_some, on_int, under_half, on_long, on_number, on_ref, on_object, on_kind, is_int, is_long, is_ref, of_kind, with_args, is_zero, dividing}
use Rattle.run_state.specs.References.{given}
use Rattle.run_state.specs.Unwinding.{catching, landing, leaving, thrown}
use Rattle.run_state.specs.Calls.{said, entered, root_goes_on, left}
use Rattle.run_state.specs.Step.{classes_of, fresh_frame, with_frames, beginning}
use Rattle.run_state.specs.Erasure.{word_of, words_of, frame_of, frames_of, areas_of, quiet, without_reports, image}
use Rattle.run_state.proofs.ErasedWords.{map_replicate}

-- the same with other reports
abbrev pub loud : List Report → Outside → Outside
loud rs o = record o { reports = rs }

pub said_loud : (o : Outside) (rs xs ys : List Report) → said (loud rs o) xs ≡ loud (said (loud rs o) xs).reports (said o ys)
said_loud o rs [] [] = refl
said_loud o rs [] (y ∷ ys) = refl
said_loud o rs (x ∷ xs) [] = refl
said_loud o rs (x ∷ xs) (y ∷ ys) = refl

module _ {T U : Type 0} (h : T → U) where
  pub fresh_frame_image : (m : Method) → frame_of h (fresh_frame m) ≡ fresh_frame m
  fresh_frame_image m = ap (λ l. record { method = m; next = 0; locals = l; stack = [] }) (map_replicate (word_of h) m.locals Empty)

  pub with_frames_image : (ms : List Method) (fs : List (Frame T)) → frames_of h (with_frames ms fs) ≡ with_frames ms (frames_of h fs)
  with_frames_image [] fs = refl
  with_frames_image (m ∷ ms) fs =
      with_frames_image ms (fresh_frame m ∷ fs) ∙ ap (λ f. with_frames ms (f ∷ frames_of h fs)) (fresh_frame_image m)

  module _ (o : Outside) (rs : List Report) (ar : Areas T) where
    pub some_image : {A B : Type 0} (f : A → B) (x : Option A) (y : Option B) (go : A → State T) (go' : B → State U) → option_map f x ≡ y → ((a : A) → image h (go a) ≡ without_reports (go' (f a))) → image h (on_some o ar x go) ≡ without_reports (on_some (loud rs o) (areas_of h ar) y go')
    some_image f None y go go' e k = ap (λ z. without_reports (on_some (loud rs o) (areas_of h ar) z go')) e
    some_image f (Some a) y go go' e k = k a ∙ ap (λ z. without_reports (on_some (loud rs o) (areas_of h ar) z go')) e

    pub int_image : (st : List (Word T)) (go : ℤ → T → List (Word T) → State T) (go' : ℤ → U → List (Word U) → State U) → ((v : ℤ) (t : T) (rest : List (Word T)) → image h (go v t rest) ≡ without_reports (go' v (h t) (words_of h rest))) → image h (on_int o ar st go) ≡ without_reports (on_int (loud rs o) (areas_of h ar) (words_of h st) go')
    int_image [] go go' k = refl
    int_image (Empty ∷ st) go go' k = refl
    int_image (Num v t ∷ st) go go' k = k v t st
    int_image (Long v t ∷ st) go go' k = refl
    int_image (Half ∷ st) go go' k = refl
    int_image (Null ∷ st) go go' k = refl
    int_image (Ref a ∷ st) go go' k = refl

    pub under_half_image : (st : List (Word T)) (go : ℤ → T → List (Word T) → State T) (go' : ℤ → U → List (Word U) → State U) → ((v : ℤ) (t : T) (rest : List (Word T)) → image h (go v t rest) ≡ without_reports (go' v (h t) (words_of h rest))) → image h (under_half o ar st go) ≡ without_reports (under_half (loud rs o) (areas_of h ar) (words_of h st) go')
    under_half_image [] go go' k = refl
    under_half_image (Empty ∷ st) go go' k = refl
    under_half_image (Num v t ∷ st) go go' k = refl
    under_half_image (Long v t ∷ st) go go' k = k v t st
    under_half_image (Half ∷ st) go go' k = refl
    under_half_image (Null ∷ st) go go' k = refl
    under_half_image (Ref a ∷ st) go go' k = refl

    pub long_image : (st : List (Word T)) (go : ℤ → T → List (Word T) → State T) (go' : ℤ → U → List (Word U) → State U) → ((v : ℤ) (t : T) (rest : List (Word T)) → image h (go v t rest) ≡ without_reports (go' v (h t) (words_of h rest))) → image h (on_long o ar st go) ≡ without_reports (on_long (loud rs o) (areas_of h ar) (words_of h st) go')
    long_image [] go go' k = refl
    long_image (Empty ∷ st) go go' k = refl
    long_image (Num v t ∷ st) go go' k = refl
    long_image (Long v t ∷ st) go go' k = refl
    long_image (Half ∷ st) go go' k = under_half_image st go go' k
    long_image (Null ∷ st) go go' k = refl
    long_image (Ref a ∷ st) go go' k = refl

    pub number_image : (w : Width) (st : List (Word T)) (go : ℤ → T → List (Word T) → State T) (go' : ℤ → U → List (Word U) → State U) → ((v : ℤ) (t : T) (rest : List (Word T)) → image h (go v t rest) ≡ without_reports (go' v (h t) (words_of h rest))) → image h (on_number o ar w st go) ≡ without_reports (on_number (loud rs o) (areas_of h ar) w (words_of h st) go')
    number_image width.Int st go go' k = int_image st go go' k
    number_image width.Long st go go' k = long_image st go go' k

    pub ref_image : (st : List (Word T)) (go : Word T → List (Word T) → State T) (go' : Word U → List (Word U) → State U) → ((w : Word T) (rest : List (Word T)) → image h (go w rest) ≡ without_reports (go' (word_of h w) (words_of h rest))) → image h (on_ref o ar st go) ≡ without_reports (on_ref (loud rs o) (areas_of h ar) (words_of h st) go')
    ref_image [] go go' k = refl
    ref_image (Empty ∷ st) go go' k = refl
    ref_image (Num v t ∷ st) go go' k = refl
    ref_image (Long v t ∷ st) go go' k = refl
    ref_image (Half ∷ st) go go' k = refl
    ref_image (Null ∷ st) go go' k = k Null st
    ref_image (Ref a ∷ st) go go' k = k (Ref a) st

    pub object_image : (st : List (Word T)) (null : State T) (null' : State U) (go : ℕ → List (Word T) → State T) (go' : ℕ → List (Word U) → State U) → image h null ≡ without_reports null' → ((a : ℕ) (rest : List (Word T)) → image h (go a rest) ≡ without_reports (go' a (words_of h rest))) → image h (on_object o ar st null go) ≡ without_reports (on_object (loud rs o) (areas_of h ar) (words_of h st) null' go')
    object_image [] null null' go go' n k = refl
    object_image (Empty ∷ st) null null' go go' n k = refl
    object_image (Num v t ∷ st) null null' go go' n k = refl
    object_image (Long v t ∷ st) null null' go go' n k = refl
    object_image (Half ∷ st) null null' go go' n k = refl
    object_image (Null ∷ st) null null' go go' n k = n
    object_image (Ref a ∷ st) null null' go go' n k = k a st

    pub kind_image : (q : Kind) (st : List (Word T)) (go : Word T → List (Word T) → State T) (go' : Word U → List (Word U) → State U) → ((w : Word T) (rest : List (Word T)) → image h (go w rest) ≡ without_reports (go' (word_of h w) (words_of h rest))) → image h (on_kind o ar q st go) ≡ without_reports (on_kind (loud rs o) (areas_of h ar) q (words_of h st) go')
    kind_image kind.Int st go go' k = int_image st _ _ (λ v t rest. k (Num v t) rest)
    kind_image kind.Long st go go' k = long_image st _ _ (λ v t rest. k (Long v t) rest)
    kind_image kind.Ref st go go' k = ref_image st go go' k

    pub is_int_image : (w : Word T) (go : ℤ → T → State T) (go' : ℤ → U → State U) → ((v : ℤ) (t : T) → image h (go v t) ≡ without_reports (go' v (h t))) → image h (is_int o ar w go) ≡ without_reports (is_int (loud rs o) (areas_of h ar) (word_of h w) go')
    is_int_image Empty go go' k = refl
    is_int_image (Num v t) go go' k = k v t
    is_int_image (Long v t) go go' k = refl
    is_int_image Half go go' k = refl
    is_int_image Null go go' k = refl
    is_int_image (Ref a) go go' k = refl

    pub is_long_image : (w : Word T) (go : ℤ → T → State T) (go' : ℤ → U → State U) → ((v : ℤ) (t : T) → image h (go v t) ≡ without_reports (go' v (h t))) → image h (is_long o ar w go) ≡ without_reports (is_long (loud rs o) (areas_of h ar) (word_of h w) go')
    is_long_image Empty go go' k = refl
    is_long_image (Num v t) go go' k = refl
    is_long_image (Long v t) go go' k = k v t
    is_long_image Half go go' k = refl
    is_long_image Null go go' k = refl
    is_long_image (Ref a) go go' k = refl

    pub is_ref_image : (w : Word T) (go : Word T → State T) (go' : Word U → State U) → ((x : Word T) → image h (go x) ≡ without_reports (go' (word_of h x))) → image h (is_ref o ar w go) ≡ without_reports (is_ref (loud rs o) (areas_of h ar) (word_of h w) go')
    is_ref_image Empty go go' k = refl
    is_ref_image (Num v t) go go' k = refl
    is_ref_image (Long v t) go go' k = refl
    is_ref_image Half go go' k = refl
    is_ref_image Null go go' k = k Null
    is_ref_image (Ref a) go go' k = k (Ref a)

    pub of_kind_image : (q : Kind) (w : Word T) (go : Word T → State T) (go' : Word U → State U) → ((x : Word T) → image h (go x) ≡ without_reports (go' (word_of h x))) → image h (of_kind o ar q w go) ≡ without_reports (of_kind (loud rs o) (areas_of h ar) q (word_of h w) go')
    of_kind_image kind.Int w go go' k = is_int_image w _ _ (λ v t. k (Num v t))
    of_kind_image kind.Long w go go' k = is_long_image w _ _ (λ v t. k (Long v t))
    of_kind_image kind.Ref w go go' k = is_ref_image w go go' k

    pub args_image : (n : ℕ) (st acc : List (Word T)) (go : List (Word T) → List (Word T) → State T) (go' : List (Word U) → List (Word U) → State U) → ((args rest : List (Word T)) → image h (go args rest) ≡ without_reports (go' (words_of h args) (words_of h rest))) → image h (with_args o ar n st acc go) ≡ without_reports (with_args (loud rs o) (areas_of h ar) n (words_of h st) (words_of h acc) go')
    args_image zero st acc go go' k = k acc st
    args_image (suc n) [] acc go go' k = refl
    args_image (suc n) (w ∷ st) acc go go' k = args_image n st (w ∷ acc) go go' k

    pub either_image : (b : Bool) (x y : State T) (x' y' : State U) → image h x ≡ without_reports x' → image h y ≡ without_reports y' → image h (either b x y) ≡ without_reports (either b x' y')
    either_image true x y x' y' e f = e
    either_image false x y x' y' e f = f

    pub given_image : {A B : Type 0} (f : A → B) (x : Option A) (y : Option B) (past : State T) (past' : State U) (go : A → State T) (go' : B → State U) → option_map f x ≡ y → image h past ≡ without_reports past' → ((a : A) → image h (go a) ≡ without_reports (go' (f a))) → image h (given x past go) ≡ without_reports (given y past' go')
    given_image f None y past past' go go' e n k = n ∙ ap (λ z. without_reports (given z past' go')) e
    given_image f (Some a) y past past' go go' e n k = k a ∙ ap (λ z. without_reports (given z past' go')) e

    pub choose_image : (b c : Bool) (x y : State T) (x' y' : State U) → b ≡ c → image h x ≡ without_reports x' → image h y ≡ without_reports y' → image h (either b x y) ≡ without_reports (either c x' y')
    choose_image b c x y x' y' e p q = either_image b x y x' y' p q ∙ ap (λ z. without_reports (either z x' y')) e

    pub dividing_image : (op : BinOp) (b : ℤ) (x y : State T) (x' y' : State U) → image h x ≡ without_reports x' → image h y ≡ without_reports y' → image h (dividing op b x y) ≡ without_reports (dividing op b x' y')
    dividing_image operation.Add b x y x' y' e f = f
    dividing_image operation.Sub b x y x' y' e f = f
    dividing_image operation.Mul b x y x' y' e f = f
    dividing_image operation.Div b x y x' y' e f = either_image (is_zero b) x y x' y' e f
    dividing_image operation.Rem b x y x' y' e f = either_image (is_zero b) x y x' y' e f
    dividing_image operation.And b x y x' y' e f = f
    dividing_image operation.Or b x y x' y' e f = f
    dividing_image operation.Xor b x y x' y' e f = f

    pub landing_image : (x : Option ℕ) (go : ℕ → State T) (go' : ℕ → State U) (past : State T) (past' : State U) → ((pc : ℕ) → image h (go pc) ≡ without_reports (go' pc)) → image h past ≡ without_reports past' → image h (landing x go past) ≡ without_reports (landing x go' past')
    landing_image None go go' past past' a b = b
    landing_image (Some pc) go go' past past' a b = a pc

    pub leaving_image : (k : Option (List ℕ)) (c : List ℕ) (past : State T) (past' : State U) → image h past ≡ without_reports past' → image h (leaving k o ar c past) ≡ without_reports (leaving k (loud rs o) (areas_of h ar) c past')
    leaving_image None c past past' e = e
    leaving_image (Some k) c past past' e = refl

    pub entered_image : (callee : Method) (args : List (Word T)) (fs : List (Frame T)) → image h (entered o ar callee args fs) ≡ without_reports (entered (loud rs o) (areas_of h ar) callee (words_of h args) (frames_of h fs))
    entered_image callee args fs =
        ap (λ l. live (quiet o) (areas_of h ar) callee 0 l [] (frames_of h fs))
        (map-append (word_of h) args (replicate (callee.locals - callee.params) Empty) ∙ ap (λ l. words_of h args ++ l) (map_replicate (word_of h) (callee.locals - callee.params) Empty))

    pub root_goes_on_image : (p : Phase) → image h (root_goes_on p o ar) ≡ without_reports (root_goes_on p (loud rs o) (areas_of h ar))
    root_goes_on_image Begins = refl
    root_goes_on_image Makes = refl
    root_goes_on_image Calls = refl
    root_goes_on_image Waits = refl

    pub left_image : (fs : List (Frame T)) → image h (left o ar fs) ≡ without_reports (left (loud rs o) (areas_of h ar) (frames_of h fs))
    left_image [] = root_goes_on_image o.phase
    left_image (f ∷ fs) = refl

    pub beginning_image : (ms : List Method) (fs : List (Frame T)) (x : State T) (x' : State U) → image h x ≡ without_reports x' → image h (beginning ms o ar fs x) ≡ without_reports (beginning ms (loud rs o) (areas_of h ar) (frames_of h fs) x')
    beginning_image [] fs x x' e = e
    beginning_image (m ∷ ms) fs x x' e =
        ap (λ l. record { frames = l; areas = areas_of h ar; outside = quiet (record o { begun = classes_of (m ∷ ms) ++ o.begun }); ending = Running }) (with_frames_image (m ∷ ms) fs)

    module _ (L : Looks) where
      pub thrown_image : (c : List ℕ) (a : ℕ) (fs : List (Frame T)) (m : Method) (at : ℕ) (ls : List (Word T)) → image h (thrown L o ar c a fs m at ls) ≡ without_reports (thrown L (loud rs o) (areas_of h ar) c a (frames_of h fs) m at (words_of h ls))
      thrown_image c a [] m at ls = landing_image (catching L c at m.handlers) _ _ _ _ (λ pc. refl) (leaving_image m.begins c _ _ refl)
      thrown_image c a (f ∷ fs) m at ls =
          landing_image (catching L c at m.handlers) _ _ _ _ (λ pc. refl) (leaving_image m.begins c _ _ (thrown_image c a fs f.method (f.next - 1) f.locals))
