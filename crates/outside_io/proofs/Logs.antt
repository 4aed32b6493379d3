-- Laws of the writes that a text and their sizes hold.
use Rattle.std.proofs.Common.{◌≡◌, ◌∙◌, ℕ, ◌+◌, ◌≤◌, List, [], ◌∷◌, ◌++◌, length, take, drop, Option, Some, cond, refl, sym, ap, nat_eq, arith, append_assoc}
use Rattle.std.specs.Ordering.{nat_cmp}
use Rattle.std.specs.Str.{IsUtf8}
use Rattle.std.specs.Cmp.Lexicographic.{pointwise, texts_ties, nat_list_cmp_total, slice_cmp}
use Rattle.std.specs.FinMap.{get, get-insert, get-empty, insert, empty}
use Rattle.std.proofs.lemmas.List.{take-append-le, drop-append-le, nil_from_length, length-drop, length-take}
use Rattle.std.proofs.Math.Seq.{take-append_seam, drop-append_seam, take-length}
use Rattle.outside_io.specs.Files.{Files}
use Rattle.outside_io.specs.MemoryKinds.{bytes_of, files_of, written_over}
use Rattle.outside_io.specs.WriteLog.{log_of, taken, AreTexts, LogState}

-- the newest bytes of a path after these writes, or else those that were found before
abbrev pub latest : List ℕ → List (List ℕ × List ℕ) → Option (List ℕ) → Option (List ℕ)
latest path [] found = found
latest path (w ∷ ws) found = latest path ws (cond (pointwise nat_eq path w.0) (Some w.1) found)

pub get-written_over : (ws : List (List ℕ × List ℕ)) (path : List ℕ) (m : Files) → get (written_over m ws) path ≡ latest path ws (get m path)
get-written_over [] path m = refl
get-written_over (w ∷ ws) path m =
    get-written_over ws path (insert m w.0 w.1)
    ∙ ap (latest path ws) (get-insert nat_list_cmp_total m w.0 w.1 path ∙ ap (λ b. cond b (Some w.1) (get m path)) (sym (texts_ties path w.0)))

pub get-files_of : (ws : List (List ℕ × List ℕ)) (path : List ℕ) → get (files_of ws) path ≡ latest path ws Option.None
get-files_of ws path = get-written_over ws path empty ∙ ap (latest path ws) (get-empty (slice_cmp nat_cmp) path)

over_append : (ws : List (List ℕ × List ℕ)) (m : Files) (path bytes : List ℕ) → written_over m (ws ++ (path, bytes) ∷ []) ≡ insert (written_over m ws) path bytes
over_append [] m path bytes = refl
over_append (w ∷ ws) m path bytes = over_append ws (insert m w.0 w.1) path bytes

-- the files after one more write
pub files_after_write : (ws : List (List ℕ × List ℕ)) (path bytes : List ℕ) → files_of (ws ++ (path, bytes) ∷ []) ≡ insert (files_of ws) path bytes
files_after_write ws path bytes = over_append ws empty path bytes

pub taken-append : (sizes : List (ℕ × ℕ)) (s : ℕ × ℕ) → taken (sizes ++ s ∷ []) ≡ taken sizes + (s.0 + s.1)
taken-append [] s = omega arith
taken-append (x ∷ xs) s = omega (arith, taken-append xs s)

one_write : (text path bytes : List ℕ) → text ≡ [] → log_of ((length path, length bytes) ∷ []) (text ++ (path ++ bytes)) ≡ (path, bytes) ∷ []
one_write text path bytes e = rw (e, take-append_seam path bytes, drop-append_seam path bytes) (ap (λ (bs : List ℕ). (path, bs) ∷ []) (take-length bytes))

log_of-append : (sizes : List (ℕ × ℕ)) (text path bytes : List ℕ) → taken sizes ≡ length text → log_of (sizes ++ (length path, length bytes) ∷ []) (text ++ (path ++ bytes)) ≡ log_of sizes text ++ (path, bytes) ∷ []
log_of-append [] text path bytes h = one_write text path bytes (nil_from_length text (sym h))
log_of-append (s ∷ ss) text path bytes h =
    let first : s.0 ≤ length text = omega arith in
    let second : s.1 ≤ length (drop s.0 text) = omega (arith, length-drop s.0 text) in
    let both : s.0 + s.1 ≤ length text = omega arith in
    rw (take-append-le s.0 text (path ++ bytes), drop-append-le s.0 text (path ++ bytes), take-append-le s.1 (drop s.0 text) (path ++ bytes), drop-append-le (s.0 + s.1) text (path ++ bytes))
    (ap (λ ws. (take s.0 text, take s.1 (drop s.0 text)) ∷ ws) (log_of-append ss (drop (s.0 + s.1) text) path bytes (omega (arith, length-drop (s.0 + s.1) text))))

-- the log after one more write
pub one_more : (sizes : List (ℕ × ℕ)) (text path bytes : List ℕ) → taken sizes ≡ length text
    → log_of (sizes ++ (length path, length bytes) ∷ []) ((text ++ path) ++ bytes) ≡ log_of sizes text ++ (path, bytes) ∷ []
one_more sizes text path bytes h =
    ap (λ zs. log_of (sizes ++ (length path, length bytes) ∷ []) zs) (append_assoc text path bytes)
    ∙ log_of-append sizes text path bytes h

-- the same of what contracts see
pub one_more_view : (sizes more : List (ℕ × ℕ)) (text longer path bytes : List ℕ) (files room : ℕ) (log : LogState)
    → record { written = log_of sizes text; files_room = files; bytes_room = room } ≡ log → taken sizes ≡ length text
    → more ≡ sizes ++ (length path, length bytes) ∷ [] → longer ≡ (text ++ path) ++ bytes
    → record { written = log_of more longer; files_room = files; bytes_room = room } ≡ record log { written = log.written ++ (path, bytes) ∷ [] }
one_more_view sizes more text longer path bytes files room log view whole more_is longer_is =
    let log_is : log_of more longer ≡ log_of sizes text ++ (path, bytes) ∷ [] = rw (more_is, longer_is) (one_more sizes text path bytes whole) in
    ap (λ (ws : List (List ℕ × List ℕ)). record { written = ws; files_room = files; bytes_room = room }) log_is
    ∙ ap (λ (s : LogState). record s { written = s.written ++ (path, bytes) ∷ [] }) view

pub AreTexts-append : (ws : List (List ℕ × List ℕ)) (w : List ℕ × List ℕ) → AreTexts ws → IsUtf8 w.0 → AreTexts (ws ++ w ∷ [])
AreTexts-append [] w h u = (u, tt)
AreTexts-append (x ∷ xs) w h u = (h.0, AreTexts-append xs w h.1 u)

pub length-log_of : (sizes : List (ℕ × ℕ)) (text : List ℕ) → length (log_of sizes text) ≡ length sizes
length-log_of [] text = refl
length-log_of (s ∷ ss) text = omega (arith, length-log_of ss (drop (s.0 + s.1) text))

pub bytes_of-log_of : (sizes : List (ℕ × ℕ)) (text : List ℕ) → taken sizes ≤ length text → bytes_of (log_of sizes text) ≡ taken sizes
bytes_of-log_of [] text h = refl
bytes_of-log_of (s ∷ ss) text h =
    let rest = bytes_of-log_of ss (drop (s.0 + s.1) text) (omega (arith, length-drop (s.0 + s.1) text)) in
    omega (arith, rest, length-take s.0 text, length-take s.1 (drop s.0 text), length-drop s.0 text)

-- what a log's two counts are in its fields
pub counts : (sizes : List (ℕ × ℕ)) (text : List ℕ) (files bytes : ℕ) (log : LogState) → record { written = log_of sizes text; files_room = files; bytes_room = bytes } ≡ log
    → taken sizes ≡ length text → (length log.written ≡ length sizes) × (bytes_of log.written ≡ length text) × (log.files_room ≡ files) × (log.bytes_room ≡ bytes)
counts sizes text files bytes log view whole = (
  ap (λ (s : LogState). length s.written) (sym view) ∙ length-log_of sizes text,
  ap (λ (s : LogState). bytes_of s.written) (sym view) ∙ bytes_of-log_of sizes text (omega arith) ∙ whole,
  ap (λ (s : LogState). s.files_room) (sym view),
  ap (λ (s : LogState). s.bytes_room) (sym view),
)

-- past the last write, what was found is the newest
pub newest_ends : (sizes : List (ℕ × ℕ)) (rest path : List ℕ) (i : ℕ) (found all : Option (List ℕ)) → length sizes ≤ i
    → latest path (log_of (drop i sizes) rest) found ≡ all → found ≡ all
newest_ends sizes rest path i found all past newest =
    let none : drop i sizes ≡ [] = nil_from_length (drop i sizes) (omega (arith, length-drop i sizes)) in
    ap (λ (ss : List (ℕ × ℕ)). latest path (log_of ss rest) found) (sym none) ∙ newest
