-- The commands and their words. This project's own.
use Rattle.std.specs.Prelude.{◌≡◌, ◌≢◌, ◌≤◌, ℕ, ◌==◌, ◌&&◌, List, [], ◌∷◌, length, map, Bool, true, false, if◌then◌else◌, codes}
use Rattle.std.specs.Str.Parse.{AllDigits, digits_value}
use Rattle.lists.specs.Texts.{units_of}

abbrev pub is_nothing : List ℕ → Bool
is_nothing [] = true
is_nothing (byte ∷ bytes) = false

-- a word without the slashes at its end
abbrev pub without_slashes : List ℕ → List ℕ
without_slashes [] = []
without_slashes (byte ∷ bytes) = if (byte == 47) && is_nothing (without_slashes bytes) then [] else byte ∷ without_slashes bytes

-- a word names a folder: something is left of it without the slashes at its end
pub record NamesFolder (word dir : List ℕ) : Type 0 where
  pub is : dir ≡ without_slashes word
  pub some : dir ≢ []

-- the folder that is read, the folder that is written, and the file of the lists
pub record Paths : Type 0 where
  pub input : List ℕ
  pub output : List ℕ
  pub config : List ℕ

-- the folder that is read, the name of the class whose `main` is run, and the most steps
pub record Program : Type 0 where
  pub dir : List ℕ
  pub main : List ℕ
  pub steps : ℕ

-- a command, with what its words name
pub data Command : Type 0 where
  Instrument : Paths → Command
  Check : (dir : List ℕ) → Command
  Run : Program → Command

-- a dot is read as a slash
abbrev pub slash_for_dot : ℕ → ℕ
slash_for_dot unit = if unit == 46 then 47 else unit

-- the name of a class that a word names
abbrev pub class_named : List ℕ → List ℕ
class_named word = map slash_for_dot (units_of word)

-- 1 to 18 digits, and their number
pub record AreSteps (word : List ℕ) (steps : ℕ) : Type 0 where
  pub some : 1 ≤ length word
  pub few : length word ≤ 18
  pub digits : AllDigits 10 word
  pub is : steps ≡ digits_value 10 word

-- `instrument IN OUT CONFIG`
pub record SpellsInstrument (words : List (List ℕ)) (paths : Paths) : Type 0 where
  pub input : List ℕ
  pub output : List ℕ
  pub words_are : words ≡ codes "instrument" ∷ input ∷ output ∷ paths.config ∷ []
  pub input_named : NamesFolder input paths.input
  pub output_named : NamesFolder output paths.output
  pub config_named : paths.config ≢ []

-- `check DIR`
pub record SpellsCheck (words : List (List ℕ)) (dir : List ℕ) : Type 0 where
  pub word : List ℕ
  pub words_are : words ≡ codes "check" ∷ word ∷ []
  pub named : NamesFolder word dir

-- `run DIR MAIN STEPS`
pub record SpellsRun (words : List (List ℕ)) (program : Program) : Type 0 where
  pub dir : List ℕ
  pub main : List ℕ
  pub steps : List ℕ
  pub words_are : words ≡ codes "run" ∷ dir ∷ main ∷ steps ∷ []
  pub dir_named : NamesFolder dir program.dir
  pub main_some : main ≢ []
  pub main_named : program.main ≡ class_named main
  pub steps_are : AreSteps steps program.steps

-- these words spell this command
abbrev pub Spells : List (List ℕ) → Command → Type 0
Spells words (Instrument paths) = SpellsInstrument words paths
Spells words (Check dir) = SpellsCheck words dir
Spells words (Run program) = SpellsRun words program

-- the words spell a command
abbrev pub IsCommand : List (List ℕ) → Type 0
IsCommand words = (command : Command) × Spells words command

-- the words spell no command
abbrev pub IsNoCommand : List (List ℕ) → Type 0
IsNoCommand words = (command : Command) → Spells words command → ⊥

-- the words spell `instrument`
abbrev pub IsInstrument : List (List ℕ) → Type 0
IsInstrument words = (paths : Paths) × SpellsInstrument words paths

-- the words spell `check`
abbrev pub IsCheck : List (List ℕ) → Type 0
IsCheck words = (dir : List ℕ) × SpellsCheck words dir

-- the words spell `run`
abbrev pub IsRun : List (List ℕ) → Type 0
IsRun words = (program : Program) × SpellsRun words program
