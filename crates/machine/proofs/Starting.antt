-- The beginning of classes, by numbers and as the definitions have it.
use Rattle.std.proofs.Common.{◌≡◌, ℕ, ◌<◌, List, [], ◌∷◌, ◌++◌, length, map, replicate, Option, Some, None, refl, ap, sym, ◌∙◌, subst}
use Rattle.std.specs.Prelude.{Bool, true, false, ◌==◌, option_map, if◌then◌else◌}
use Rattle.std.specs.Cmp.Lexicographic.{same_text as told}
use Rattle.std.proofs.lemmas.Bool.{eq-eqb, eqb-true}
use Rattle.lists.proofs.Units.{pointwise_self}
use Rattle.run_state.specs.Words.{Empty}
use Rattle.run_state.specs.Texts.{same_text}
use Rattle.run_state.specs.Operands.{either}
use Rattle.run_state.specs.Step.{named, classes_of, fresh_frame, with_frames, to_start, beginning}
use Rattle.run_state.specs.Step as step
use Rattle.machine_frames.specs.declared.frame.Frame.{Frame}
use Rattle.linked_code.specs.declared.program.Program.{Program}
use Rattle.linked_code.specs.World.{World}
use Rattle.linked_code.specs.Kept.{is_among}
use Rattle.linked_code.specs.Numbered.{method_at}
use Rattle.linked_code.specs.Links.{Links}
use Rattle.machine.specs.Called.{blank}
use Rattle.machine.specs.Beginning.{has_begun, with_class, waiting, with_classes, with_blanks}
use Rattle.machine.specs.Shown.{frame_of}

one_test : (a b : Bool) → (a ≡ true → b ≡ true) → (b ≡ true → a ≡ true) → a ≡ b
one_test true true f g = refl
one_test true false f g = sym (f refl)
one_test false true f g = g refl
one_test false false f g = refl

either_if : {A : Type 0} (b : Bool) (x y : A) → either b x y ≡ (if b then x else y)
either_if true x y = refl
either_if false x y = refl

map_either : {A B : Type 0} (f : A → B) (b : Bool) (xs ys : List A) → map f (either b xs ys) ≡ either b (map f xs) (map f ys)
map_either f true xs ys = refl
map_either f false xs ys = refl

none_begun : (begun : List (List ℕ)) → step.has_begun begun None ≡ true
none_begun [] = refl
none_begun (c ∷ cs) = refl

module _ {T : Type 0} (none : T) (w : World T) (p : Program T) (links : Links none w p) where
  same_class : (a k : ℕ) → k < length p.classes → same_text (w.class a) (w.class k) ≡ (a == k)
  same_class a k l =
      one_test (same_text (w.class a) (w.class k)) (a == k)
      (λ t. eq-eqb a k (sym (links.distinct k a l (sym (told (w.class a) (w.class k) (sym t))))))
      (λ t. subst (λ (n : ℕ). same_text (w.class a) (w.class n) ≡ true) (eqb-true a k t) (pointwise_self (w.class a)))

  among_begun : (begun : List ℕ) (k : ℕ) → k < length p.classes → step.has_begun (map w.class begun) (Some (w.class k)) ≡ is_among begun k
  among_begun [] k l = refl
  among_begun (a ∷ rest) k l =
      ap (λ b. either b true (step.has_begun (map w.class rest) (Some (w.class k)))) (same_class a k l)
      ∙ ap (λ (r : Bool). either (a == k) true r) (among_begun rest k l)
      ∙ either_if (a == k) true (is_among rest k)

  begun_by : (begun : List ℕ) (o : Option ℕ) → ((k : ℕ) → o ≡ Some k → k < length p.classes) → step.has_begun (map w.class begun) (option_map w.class o) ≡ has_begun begun o
  begun_by begun None h = none_begun (map w.class begun)
  begun_by begun (Some k) h = among_begun begun k (h k refl)

  started : (begun : List ℕ) (n : ℕ) → step.has_begun (map w.class begun) (w.method n).begins ≡ has_begun begun (method_at p n).begins
  started begun n = ap (step.has_begun (map w.class begun)) (links.methods n).begins ∙ begun_by begun (method_at p n).begins (links.begins n)

  -- the initializers that are to start
  pub waiting_is : (begun ns : List ℕ) → map w.method (waiting p begun ns) ≡ to_start (map w.class begun) (map w.method ns)
  waiting_is begun [] = refl
  waiting_is begun (n ∷ ns) =
      map_either w.method (has_begun begun (method_at p n).begins) (waiting p begun ns) (n ∷ waiting p begun ns)
      ∙ ap (λ ms. either (has_begun begun (method_at p n).begins) ms (w.method n ∷ ms)) (waiting_is begun ns)
      ∙ ap (λ b. either b (to_start (map w.class begun) (map w.method ns)) (w.method n ∷ to_start (map w.class begun) (map w.method ns))) (sym (started begun n))

  named_is : (o : Option ℕ) (ks begun : List ℕ) (cs : List (List ℕ)) → map w.class ks ≡ cs ++ map w.class begun → map w.class (with_class o ks) ≡ named (option_map w.class o) cs ++ map w.class begun
  named_is None ks begun cs e = e
  named_is (Some k) ks begun cs e = ap (λ q. w.class k ∷ q) e

  -- and their classes
  pub classes_are : (ns begun : List ℕ) → map w.class (with_classes p ns begun) ≡ classes_of (map w.method ns) ++ map w.class begun
  classes_are [] begun = refl
  classes_are (n ∷ ns) begun =
      named_is (method_at p n).begins (with_classes p ns begun) begun (classes_of (map w.method ns)) (classes_are ns begun)
      ∙ ap (λ o. named o (classes_of (map w.method ns)) ++ map w.class begun) (sym (links.methods n).begins)

  blank_is : (n : ℕ) → frame_of w (blank n (method_at p n).locals) ≡ fresh_frame (w.method n)
  blank_is n = ap (λ k. record { method = w.method n; next = 0; locals = replicate k Empty; stack = [] }) (sym (links.methods n).locals)

  -- and their frames
  pub frames_are : (ns : List ℕ) (fs : List (Frame T)) → map (frame_of w) (with_blanks p ns fs) ≡ with_frames (map w.method ns) (map (frame_of w) fs)
  frames_are [] fs = refl
  frames_are (n ∷ ns) fs = frames_are ns (blank n (method_at p n).locals ∷ fs) ∙ ap (λ x. with_frames (map w.method ns) (x ∷ map (frame_of w) fs)) (blank_is n)
