-- Numbers by their hashes, in chains that lead to lower numbers. A device of proofs.
use Rattle.std.specs.Prelude.{◌≡◌, ◌≢◌, ℕ, ◌-◌, ◌/◌, ◌<◌, ◌≤◌, ◌^◌, List, length, map, set, get_or, bit_and, bit_or}
use Rattle.amf_graph.specs.declared.chains.Link.{Link}

-- what is kept of each number: its hash, and the link to the next lower number of its bucket
abbrev pub hashes_of : List Link → List ℕ
hashes_of links = map (λ l. l.hash) links

abbrev pub nexts_of : List Link → List ℕ
nexts_of links = map (λ l. l.next) links

-- A link is one more than a number, or 0 for none. This one leads to the greatest number below an end that has a key, if one has.
pub record LeadsTo (key : ℕ → ℕ) (bound wanted link : ℕ) : Type 0 where
  pub within : link ≤ bound
  pub has : 0 < link → key (link - 1) ≡ wanted
  pub passed : (i : ℕ) → link ≤ i → i < bound → key i ≢ wanted

abbrev pub hash_at : List ℕ → ℕ → ℕ
hash_at hashes i = get_or hashes i 0

-- the bucket of a number: the bits of its hash that the mask leaves
abbrev pub bucket_at : ℕ → List ℕ → ℕ → ℕ
bucket_at mask hashes i = bit_and (hash_at hashes i) mask

-- the link of each of the first n numbers leads to the next lower one of its bucket
abbrev pub AreNexts : ℕ → ℕ → List ℕ → List ℕ → Type 0
AreNexts mask n hashes next = (i : ℕ) → i < n → LeadsTo (bucket_at mask hashes) i (bucket_at mask hashes i) (get_or next i 0)

-- from a link of a hash's chain on, this is the first one that leads to the hash
abbrev pub LeadsFrom : (hashes nexts : List ℕ) → (n hash from found : ℕ) → Type 0
LeadsFrom hashes nexts n hash from found = (mask bound : ℕ) → AreNexts mask n hashes nexts → LeadsTo (bucket_at mask hashes) bound (bit_and hash mask) from → bound ≤ n → LeadsTo (hash_at hashes) bound hash found

-- and the link of each bucket to its greatest number of them
pub record AreLinked (mask n : ℕ) (hashes next buckets : List ℕ) : Type 0 where
  pub heads : (b : ℕ) → b < length buckets → LeadsTo (bucket_at mask hashes) n b (get_or buckets b 0)
  pub nexts : AreNexts mask n hashes next

-- all numbers that have hashes are linked
pub record AreChains (hashes next buckets : List ℕ) : Type 0 where
  pub few : length hashes < 2 ^ 32
  pub room : length hashes ≤ length buckets
  pub links : length next ≡ length hashes
  pub linked : AreLinked (length buckets - 1) (length hashes) hashes next buckets

-- A mark of a hash is one bit of eight.
abbrev pub hash_mark : ℕ → ℕ
hash_mark h = 2 ^ (h / 2 ^ 29)

-- where the marks of a hash's bucket stand
abbrev pub marks_at : ℕ → List ℕ → ℕ
marks_at h marks = get_or marks (bit_and h (length marks - 1)) 0

abbrev pub with_mark : ℕ → List ℕ → List ℕ
with_mark h marks = set marks (bit_and h (length marks - 1)) (bit_or (marks_at h marks) (hash_mark h))

-- the hash's mark is among those of its bucket
abbrev pub IsMarked : List ℕ → ℕ → Type 0
IsMarked marks h = bit_or (marks_at h marks) (hash_mark h) ≡ marks_at h marks

abbrev pub AreMarked : List ℕ → List ℕ → Type 0
AreMarked hashes marks = (i : ℕ) → i < length hashes → IsMarked marks (hash_at hashes i)

-- each number is linked and its hash marked
pub record AreFound (links : List Link) (buckets marks : List ℕ) : Type 0 where
  pub chains : AreChains (hashes_of links) (nexts_of links) buckets
  pub marked : AreMarked (hashes_of links) marks
  pub count : length marks ≡ length buckets
