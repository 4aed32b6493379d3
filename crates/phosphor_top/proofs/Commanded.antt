-- Words and the command that they spell.
use Rattle.std.proofs.Common.{◌≡◌, ◌≢◌, ◌∙◌, ℕ, ◌<◌, ◌≤◌, ◌==◌, ◌&&◌, String, Global, string_bytes, string_len, map, take, length, get_or, subst, arith, List, [], ◌∷◌, ◌++◌, Bool, true, false, rules, refl, sym, ap, codes, if◌then◌else◌}
use Rattle.std.specs.Prelude.{Option, Some, None, MatchOption}
use Rattle.std.specs.Str.{IsUtf8}
use Rattle.std.specs.Str.Parse.{digits_value}
use Rattle.std.proofs.lemmas.Bool.{eqb-true}
use Rattle.std.proofs.lemmas.Str.{IsUtf8-take, IsUtf8-from_ascii, IsCharBoundary-at_seam}
use Rattle.std.proofs.lemmas.Str.Ascii.{IsAscii-from_all}
use Rattle.phosphor_top.specs.Commands.{Command, Instrument, Check, Run, Paths, Program, Spells, SpellsCheck, SpellsInstrument, SpellsRun, IsCheck, NamesFolder, AreSteps, class_named, without_slashes, is_nothing}

same_fields : (a b c x y z : List ℕ) → a ≡ x → b ≡ y → c ≡ z → ◌≡◌ {A = Paths} (record { input = a; output = b; config = c }) (record { input = x; output = y; config = z })
same_fields a b c x y z p q r = cc

same_program : (a b : List ℕ) (m : ℕ) (x y : List ℕ) (n : ℕ) → a ≡ x → b ≡ y → m ≡ n → ◌≡◌ {A = Program} (record { dir = a; main = b; steps = m }) (record { dir = x; main = y; steps = n })
same_program a b m x y n p q r = cc

first : (a b c d w x y z : List ℕ) → a ∷ b ∷ c ∷ d ∷ [] ≡ w ∷ x ∷ y ∷ z ∷ [] → a ≡ w
first a b c d w x y z e = cc

second : (a b c d w x y z : List ℕ) → a ∷ b ∷ c ∷ d ∷ [] ≡ w ∷ x ∷ y ∷ z ∷ [] → b ≡ x
second a b c d w x y z e = cc

third : (a b c d w x y z : List ℕ) → a ∷ b ∷ c ∷ d ∷ [] ≡ w ∷ x ∷ y ∷ z ∷ [] → c ≡ y
third a b c d w x y z e = cc

fourth : (a b c d w x y z : List ℕ) → a ∷ b ∷ c ∷ d ∷ [] ≡ w ∷ x ∷ y ∷ z ∷ [] → d ≡ z
fourth a b c d w x y z e = cc

second_of_two : (a b w x : List ℕ) → a ∷ b ∷ [] ≡ w ∷ x ∷ [] → b ≡ x
second_of_two a b w x e = cc

four_are_not_two : (a b c d w x : List ℕ) → a ∷ b ∷ c ∷ d ∷ [] ≡ w ∷ x ∷ [] → ⊥
four_are_not_two a b c d w x e = cc

pub one_paths : (words : List (List ℕ)) (c d : Paths) → SpellsInstrument words c → SpellsInstrument words d → c ≡ d
one_paths words c d s t =
    let e = sym s.words_are ∙ t.words_are in
    same_fields c.input c.output c.config d.input d.output d.config
    (s.input_named.is ∙ ap without_slashes (second _ _ _ _ _ _ _ _ e) ∙ sym t.input_named.is)
    (s.output_named.is ∙ ap without_slashes (third _ _ _ _ _ _ _ _ e) ∙ sym t.output_named.is)
    (fourth _ _ _ _ _ _ _ _ e)

pub one_dir : (words : List (List ℕ)) (c d : List ℕ) → SpellsCheck words c → SpellsCheck words d → c ≡ d
one_dir words c d s t = s.named.is ∙ ap without_slashes (second_of_two _ _ _ _ (sym s.words_are ∙ t.words_are)) ∙ sym t.named.is

pub one_program : (words : List (List ℕ)) (c d : Program) → SpellsRun words c → SpellsRun words d → c ≡ d
one_program words c d s t =
    let e = sym s.words_are ∙ t.words_are in
    same_program c.dir c.main c.steps d.dir d.main d.steps
    (s.dir_named.is ∙ ap without_slashes (second _ _ _ _ _ _ _ _ e) ∙ sym t.dir_named.is)
    (s.main_named ∙ ap class_named (third _ _ _ _ _ _ _ _ e) ∙ sym t.main_named)
    (s.steps_are.is ∙ ap (digits_value 10) (fourth _ _ _ _ _ _ _ _ e) ∙ sym t.steps_are.is)

pub never_run_and_check : (words : List (List ℕ)) (program : Program) (dir : List ℕ) → SpellsRun words program → SpellsCheck words dir → ⊥
never_run_and_check words program dir s t = four_are_not_two _ _ _ _ _ _ (sym s.words_are ∙ t.words_are)

names_differ : codes "instrument" ≢ codes "run"
names_differ e = let lengths : 10 ≡ 3 = ap length e in omega (arith, lengths)

pub never_run_and_instrument : (words : List (List ℕ)) (program : Program) (paths : Paths) → SpellsRun words program → SpellsInstrument words paths → ⊥
never_run_and_instrument words program paths s t = names_differ (sym (first _ _ _ _ _ _ _ _ (sym s.words_are ∙ t.words_are)))

pub never_both : (words : List (List ℕ)) (paths : Paths) (dir : List ℕ) → SpellsInstrument words paths → SpellsCheck words dir → ⊥
never_both words paths dir s t = four_are_not_two _ _ _ _ _ _ (sym s.words_are ∙ t.words_are)

-- words spell one command at most
pub one_command : (words : List (List ℕ)) (c d : Command) → Spells words c → Spells words d → c ≡ d
one_command words (Instrument c) (Instrument d) s t = ap Instrument (one_paths words c d s t)
one_command words (Instrument c) (Check d) s t = absurd (never_both words c d s t)
one_command words (Check c) (Instrument d) s t = absurd (never_both words d c t s)
one_command words (Check c) (Check d) s t = ap Check (one_dir words c d s t)
one_command words (Instrument c) (Run d) s t = absurd (never_run_and_instrument words d c t s)
one_command words (Check c) (Run d) s t = absurd (never_run_and_check words d c t s)
one_command words (Run c) (Instrument d) s t = absurd (never_run_and_instrument words c d s t)
one_command words (Run c) (Check d) s t = absurd (never_run_and_check words c d s t)
one_command words (Run c) (Run d) s t = ap Run (one_program words c d s t)

-- a slash at the end goes
pub slash_goes : (front : List ℕ) → without_slashes (front ++ 47 ∷ []) ≡ without_slashes front
slash_goes [] = refl
slash_goes (byte ∷ front) = ap (λ (rest : List ℕ). if (byte == 47) && is_nothing rest then [] else byte ∷ rest) (slash_goes front)

same_cons : (x y : ℕ) (xs ys : List ℕ) → x ≡ y → xs ≡ ys → x ∷ xs ≡ y ∷ ys
same_cons x y xs ys one rest = cc

keeps_at : (byte : ℕ) (bytes rest : List ℕ) (b : Bool) → rest ≡ bytes → (byte == 47) ≡ b → (byte ≡ 47 → bytes ≡ [] → ⊥) → (b ≡ true → byte ≡ 47) → (if b && is_nothing rest then [] else byte ∷ rest) ≡ byte ∷ bytes
keeps_at byte bytes rest false same is apart slash = ap (λ (r : List ℕ). byte ∷ r) same
keeps_at byte bytes [] true same is apart slash = absurd (apart (slash refl) (sym same))
keeps_at byte bytes (r ∷ rest) true same is apart slash = ap (λ (x : List ℕ). byte ∷ x) same

-- a word with no slash at its end stays
pub keeps : (dir : List ℕ) → ((front : List ℕ) → dir ≢ front ++ 47 ∷ []) → without_slashes dir ≡ dir
keeps [] apart = refl
keeps (byte ∷ bytes) apart =
    keeps_at byte bytes (without_slashes bytes) (byte == 47) (keeps bytes (λ front e. apart (byte ∷ front) (ap (λ (xs : List ℕ). byte ∷ xs) e))) refl
    (λ is nothing. apart [] (same_cons byte 47 bytes [] is nothing)) (λ slash. eqb-true byte 47 slash)

take_front : (xs ys : List ℕ) → take (length xs) (xs ++ ys) ≡ xs
take_front [] ys = refl
take_front (x ∷ xs) ys = ap (λ (zs : List ℕ). x ∷ zs) (take_front xs ys)

slash_is_text : IsUtf8 (47 ∷ [])
slash_is_text = IsUtf8-from_ascii (47 ∷ []) (IsAscii-from_all (47 ∷ []) (search rules))

-- a text without the slash at its end is a text
pub front_is_text : (dir front : List ℕ) → dir ≡ front ++ 47 ∷ [] → IsUtf8 dir → IsUtf8 front
front_is_text dir front cut text =
    let boundary = IsCharBoundary-at_seam dir front (47 ∷ []) cut slash_is_text in
    subst (λ (bytes : List ℕ). IsUtf8 bytes) (ap (take (length front)) cut ∙ take_front front (47 ∷ [])) (IsUtf8-take dir (length front) text boundary)

same_four : (a b c d w x y z : String Global) → a ≡ w → b ≡ x → c ≡ y → d ≡ z → string_bytes w ∷ string_bytes x ∷ string_bytes y ∷ string_bytes z ∷ [] ≡ string_bytes a ∷ string_bytes b ∷ string_bytes c ∷ string_bytes d ∷ []
same_four a b c d w x y z p q r s = cc

-- four words, as texts
pub four : (words : List (String Global)) (a b c d : String Global) → 4 ≤ length words → length words < 5 → a ≡ get_or words 0 a → b ≡ get_or words 1 b → c ≡ get_or words 2 c → d ≡ get_or words 3 d
    → map string_bytes words ≡ string_bytes a ∷ string_bytes b ∷ string_bytes c ∷ string_bytes d ∷ []
four [] a b c d from to p q r s = absurd (omega (arith, from))
four (w ∷ []) a b c d from to p q r s = absurd (omega (arith, from))
four (w ∷ x ∷ []) a b c d from to p q r s = absurd (omega (arith, from))
four (w ∷ x ∷ y ∷ []) a b c d from to p q r s = absurd (omega (arith, from))
four (w ∷ x ∷ y ∷ z ∷ []) a b c d from to p q r s = same_four a b c d w x y z p q r s
four (w ∷ x ∷ y ∷ z ∷ v ∷ words) a b c d from to p q r s = absurd (omega (arith, to))

same_two : (a b w x : String Global) → a ≡ w → b ≡ x → string_bytes w ∷ string_bytes x ∷ [] ≡ string_bytes a ∷ string_bytes b ∷ []
same_two a b w x p q = cc

-- two words, as texts
pub two : (words : List (String Global)) (a b : String Global) → 2 ≤ length words → length words < 3 → a ≡ get_or words 0 a → b ≡ get_or words 1 b
    → map string_bytes words ≡ string_bytes a ∷ string_bytes b ∷ []
two [] a b from to p q = absurd (omega (arith, from))
two (w ∷ []) a b from to p q = absurd (omega (arith, from))
two (w ∷ x ∷ []) a b from to p q = same_two a b w x p q
two (w ∷ x ∷ v ∷ words) a b from to p q = absurd (omega (arith, to))

pub input_spelled : (words : List (List ℕ)) (a b c d : List ℕ) (paths : Paths) → words ≡ a ∷ b ∷ c ∷ d ∷ [] → SpellsInstrument words paths → NamesFolder b paths.input
input_spelled words a b c d paths are spells = subst (λ (word : List ℕ). NamesFolder word paths.input) (second _ _ _ _ _ _ _ _ (sym spells.words_are ∙ are)) spells.input_named

pub output_spelled : (words : List (List ℕ)) (a b c d : List ℕ) (paths : Paths) → words ≡ a ∷ b ∷ c ∷ d ∷ [] → SpellsInstrument words paths → NamesFolder c paths.output
output_spelled words a b c d paths are spells = subst (λ (word : List ℕ). NamesFolder word paths.output) (third _ _ _ _ _ _ _ _ (sym spells.words_are ∙ are)) spells.output_named

dir_spelled : (words : List (List ℕ)) (a b dir : List ℕ) → words ≡ a ∷ b ∷ [] → SpellsCheck words dir → NamesFolder b dir
dir_spelled words a b dir are spells = subst (λ (word : List ℕ). NamesFolder word dir) (second_of_two _ _ _ _ (sym spells.words_are ∙ are)) spells.named

pub no_length : {Z : Type 0} (s : String Z) → string_bytes s ≡ [] → string_len s ≡ 0
no_length s nothing = s.bytes.ok.0 ∙ ap length nothing

-- four words that were told apart spell `instrument`
pub spelled : (words : List (List ℕ)) (a b c d : List ℕ) (paths : Paths) → words ≡ a ∷ b ∷ c ∷ d ∷ [] → a ≡ codes "instrument" → NamesFolder b paths.input → NamesFolder c paths.output
    → paths.config ≡ d → d ≢ [] → SpellsInstrument words paths
spelled words a b c d paths are name input output config some = record {
  input = b;
  output = c;
  words_are = are ∙ ap (λ (word : List ℕ). word ∷ b ∷ c ∷ d ∷ []) name ∙ ap (λ (word : List ℕ). codes "instrument" ∷ b ∷ c ∷ word ∷ []) (sym config);
  input_named = input;
  output_named = output;
  config_named = λ nothing. some (sym config ∙ nothing);
}

-- two words that were told apart spell `check`
check_spelled : (words : List (List ℕ)) (a b dir : List ℕ) → words ≡ a ∷ b ∷ [] → a ≡ codes "check" → NamesFolder b dir → SpellsCheck words dir
check_spelled words a b dir are name named = record { word = b; words_are = are ∙ ap (λ (word : List ℕ). word ∷ b ∷ []) name; named = named }

-- the second of two words is a folder, or the words do not spell `check`
pub check_word : {A : Type 0} (found : Option A) (now : A → List ℕ) (words : List (List ℕ)) (a b : List ℕ) → words ≡ a ∷ b ∷ [] → a ≡ codes "check"
    → MatchOption found ((dir : List ℕ) → NamesFolder b dir → ⊥) (λ dir. NamesFolder b (now dir)) → MatchOption found (IsCheck words → ⊥) (λ dir. SpellsCheck words (now dir))
check_word None now words a b are name none = λ spells. none spells.0 (dir_spelled words a b spells.0 are spells.1)
check_word (Some dir) now words a b are name named = check_spelled words a b (now dir) are name named

pub folder_spelled : (words : List (List ℕ)) (a b c d : List ℕ) (program : Program) → words ≡ a ∷ b ∷ c ∷ d ∷ [] → SpellsRun words program → NamesFolder b program.dir
folder_spelled words a b c d program are spells = subst (λ (word : List ℕ). NamesFolder word program.dir) (second _ _ _ _ _ _ _ _ (sym spells.words_are ∙ are)) spells.dir_named

pub steps_spelled : (words : List (List ℕ)) (a b c d : List ℕ) (program : Program) → words ≡ a ∷ b ∷ c ∷ d ∷ [] → SpellsRun words program → AreSteps d program.steps
steps_spelled words a b c d program are spells = subst (λ (word : List ℕ). AreSteps word program.steps) (fourth _ _ _ _ _ _ _ _ (sym spells.words_are ∙ are)) spells.steps_are

-- four words that were told apart spell `run`
pub run_spelled : (words : List (List ℕ)) (a b c d dir main : List ℕ) (steps : ℕ) → words ≡ a ∷ b ∷ c ∷ d ∷ [] → a ≡ codes "run" → NamesFolder b dir → main ≡ c → c ≢ [] → AreSteps d steps
    → SpellsRun words (record { dir = dir; main = class_named main; steps = steps })
run_spelled words a b c d dir main steps are name folder is some number = record {
  dir = b;
  main = c;
  steps = d;
  words_are = are ∙ ap (λ (word : List ℕ). word ∷ b ∷ c ∷ d ∷ []) name;
  dir_named = folder;
  main_some = some;
  main_named = ap class_named is;
  steps_are = number;
}
