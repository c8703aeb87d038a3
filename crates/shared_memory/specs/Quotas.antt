-- What a quota over a store means.
use Rattle.std.specs.Prelude.{◌≡◌, ℕ, zero, suc, ◌+◌, cond, ◌&&◌, List, [], ◌∷◌, Ok, Err, Result, ◌==◌, nat_le}
use Rattle.std.specs.Option.{unwrap_or}
use Rattle.shared_memory.specs.declared.fault.NotEmpty.{NotEmpty}
use Rattle.shared_memory.specs.declared.quota_store.QuotaStore.{QuotaStore}
use Rattle.shared_memory.specs.Faults.{not_empty_number}
use Rattle.shared_memory.specs.Meaning.{Store, Sound, Empty, room, size_at}

-- The sum of f 0, f 1 and so on up to f (n - 1).
unfoldable pub total : (ℕ → ℕ) → ℕ → ℕ
total f zero = 0
total f (suc n) = total f n + f n

-- A number for each handle, but 0 for h.
abbrev pub skipping : ℕ → (ℕ → ℕ) → ℕ → ℕ
skipping h f k = cond (k == h) 0 (f k)

-- A number for each handle, but 0 for some.
abbrev pub skipping_all : List ℕ → (ℕ → ℕ) → ℕ → ℕ
skipping_all [] f = f
skipping_all (h ∷ hs) f = skipping_all hs (skipping h f)

-- The payload size under a handle, 0 where nothing stands.
abbrev pub bytes_under : Store → ℕ → ℕ
bytes_under s h = unwrap_or (size_at s h) 0

-- The payload sizes that stand, together.
abbrev pub used : Store → ℕ
used s = total (bytes_under s) 320

-- The payload sizes that stand together, but for those under some handles.
abbrev pub used_without : Store → List ℕ → ℕ
used_without s hs = total (skipping_all hs (bytes_under s)) 320

-- The segments of a store, with its room only where the payload sizes stay within the quota.
abbrev pub limited : Store → ℕ → Store
limited s quota = record {
  at = s.at;
  room_without = λ hs size. s.room_without hs size && nat_le (used_without s hs + size) quota;
  room_with = λ made size. s.room_with made size && nat_le (used s + made + size) quota;
}

-- A new quota over the store `below`, of which `means` is the meaning.
pub record NewQuota {S : Type 0} (means : S → Store) (below : S) (quota : ℕ) (t : QuotaStore S) : Type 0 where
  pub over : t.below ≡ below
  pub limit : t.quota ≡ quota
  pub empty : Empty (limited (means below) quota)
  pub sound : Sound (limited (means below) quota)
  pub within : (size : ℕ) → room (limited (means below) quota) size ≡ (room (means below) size && nat_le (used (means below) + size) quota)

-- Why a quota is denied, by the number of the denial.
pub data QuotaDenied (s : Store) : ℕ → Type 0 where
  not_empty : (Empty s → ⊥) → QuotaDenied s 6

-- What comes of the wish for a quota over a store: one that is not empty is handed back.
abbrev pub QuotaStart : {S : Type 0} → (S → Store) → S → ℕ → Result (QuotaStore S) (NotEmpty S) → Type 0
QuotaStart means below quota (Ok t) = NewQuota means below quota t
QuotaStart means below quota (Err e) = (e.store ≡ below) × QuotaDenied (means below) (not_empty_number e)
