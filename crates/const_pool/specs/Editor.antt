-- A pool that grows.
use Rattle.std.specs.Prelude.{◌≡◌, ℕ, ◌+◌, ◌<◌, ◌≤◌, List, ◌++◌, length, Some, All, Result, Ok, Err}
use Rattle.std.specs.List.{flat_map}
use Rattle.std.specs.Map.{keys_of}
use Rattle.const_pool.specs.Pool.{Pool, HasText, Refers, entry_at, slots_of}
use Rattle.const_pool.specs.declared.entry.Entry.{Entry}
use Rattle.const_pool.specs.declared.editor.PoolStop.{PoolStop}
use Rattle.const_pool.specs.declared.editor.PoolStop.TheVariants as stop

-- some index of the pool names the entry
abbrev pub Holds : Pool → Entry → Type 0
Holds p e = (k : ℕ) × (entry_at p k ≡ Some e)

-- each index that names an entry names it still
abbrev pub Extends : Pool → Pool → Type 0
Extends p q = (k : ℕ) (e : Entry) → entry_at p k ≡ Some e → entry_at q k ≡ Some e

-- the last index that the entry would take, where it is put at the end
abbrev pub last_index : Pool → Entry → ℕ
last_index p e = length p + length (slots_of e)

-- the count, one more than the last index, has two bytes (JVMS 4.1), so that no index passes 65,534
abbrev pub IsTooMany : Pool → Entry → Type 0
IsTooMany p e = 65534 < last_index p e

-- the pool of the entries that were put in, each with its index
abbrev pub pool_of_rows : List (Entry × ℕ) → Pool
pool_of_rows rows = flat_map slots_of (keys_of rows)

-- what an editor keeps
pub record IsEditor (rows : List (Entry × ℕ)) (taken : ℕ) : Type 0 where
  pub taken_is : taken ≡ length (pool_of_rows rows)
  pub small : taken ≤ 65534
  pub indices : All (λ row. entry_at (pool_of_rows rows) row.1 ≡ Some row.0) rows
  pub texts : All HasText (keys_of rows)
  pub refers : All (Refers (pool_of_rows rows)) (keys_of rows)

-- what `add` answers for an entry that is not there
abbrev pub AddsNew : Pool → Entry → Result ℕ PoolStop → Pool → Type 0
AddsNew old e (Ok k) new = (last_index old e ≤ 65534) × (k ≡ length old + 1) × (new ≡ old ++ slots_of e)
AddsNew old e (Err (stop.Full last)) new = IsTooMany old e × (last ≡ last_index old e)
AddsNew old e (Err stop.Memory) new = last_index old e ≤ 65534

-- and for one that is there
abbrev pub FindsOld : Pool → Entry → Result ℕ PoolStop → Pool → Type 0
FindsOld old e (Ok k) new = new ≡ old
FindsOld old e (Err stopped) new = ⊥
