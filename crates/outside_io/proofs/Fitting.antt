-- Files that have room.
use Rattle.std.proofs.Common.{◌≡◌, ℕ, ◌+◌, ◌<◌, ◌≤◌, List, [], ◌∷◌, length, take, get_or, suc, zero, add-one, arith}
use Rattle.outside_io.specs.MemoryKinds.{bytes_of}

bytes_suc : (files : List (List ℕ × List ℕ)) (i : ℕ) (d : List ℕ × List ℕ) → i < length files
    → bytes_of (take (suc i) files) ≡ bytes_of (take i files) + (length (get_or files i d).0 + length (get_or files i d).1)
bytes_suc [] i d h = absurd (omega arith)
bytes_suc (f ∷ fs) zero d h = omega arith
bytes_suc (f ∷ fs) (suc i) d h = omega (arith, bytes_suc fs i d (omega arith))

-- the bytes of one file more
pub bytes_more : (files : List (List ℕ × List ℕ)) (i : ℕ) (d : List ℕ × List ℕ) → i < length files
    → bytes_of (take (i + 1) files) ≡ bytes_of (take i files) + (length (get_or files i d).0 + length (get_or files i d).1)
bytes_more files i d h = rw add-one (bytes_suc files i d h)

-- the bytes of some of the files are at most those of all
pub bytes_part : (files : List (List ℕ × List ℕ)) (n : ℕ) → bytes_of (take n files) ≤ bytes_of files
bytes_part [] zero = omega arith
bytes_part [] (suc n) = omega arith
bytes_part (f ∷ fs) zero = omega arith
bytes_part (f ∷ fs) (suc n) = omega (arith, bytes_part fs n)
