-- Marks of hashes, where a mark is added, and where one is not there.
use Rattle.std.proofs.Common.{◌≡◌, ℕ, ◌+◌, ◌-◌, ◌<◌, ◌≤◌, ◌^◌, List, [], ◌∷◌, ◌++◌, max, length, get_or, replicate, sym, ap, ◌∙◌, subst, inl, inr, arith, get_or-set_same, get_or-set_other}
use Rattle.std.proofs.lemmas.Bool.{cases_eq}
use Rattle.std.proofs.lemmas.List.{length-set, get_or_append_left, get_or_push, length_push, length-map, length-replicate, get_or-replicate, map_push}
use Rattle.std.proofs.lemmas.Nat.{and_le_r, or_comm}
use Rattle.std.proofs.lemmas.Nat.Bits.{bit_at_or, same_from_bits}
use Rattle.std.specs.Int.{bit_at}
use Rattle.std.specs.Int.Bits.{bit_and, bit_or, or_self}
use Rattle.amf_graph.specs.Chains.{LeadsTo, hash_at, bucket_at, hash_mark, marks_at, with_mark, hashes_of, nexts_of, IsMarked, AreMarked, AreLinked, AreChains, AreFound}
use Rattle.amf_graph.specs.declared.chains.Link.{Link}
use Rattle.amf_graph.proofs.Links.{count_of}

or_assoc : (a b c : ℕ) → bit_or (bit_or a b) c ≡ bit_or a (bit_or b c)
or_assoc a b c = same_from_bits (bit_or (bit_or a b) c) (bit_or a (bit_or b c)) (λ i.
    bit_at_or (bit_or a b) c i ∙ ap (λ w. max w (bit_at c i)) (bit_at_or a b i) ∙ omega arith ∙ sym (bit_at_or a (bit_or b c) i ∙ ap (max (bit_at a i)) (bit_at_or b c i)))

-- a mark that was there is there once more are added
kept_mark : (a m n : ℕ) → bit_or a m ≡ a → bit_or (bit_or a n) m ≡ bit_or a n
kept_mark a m n h = or_assoc a n m ∙ ap (bit_or a) (or_comm n m) ∙ sym (or_assoc a m n) ∙ ap (λ w. bit_or w n) h

added_mark : (a m : ℕ) → bit_or (bit_or a m) m ≡ bit_or a m
added_mark a m = or_assoc a m m ∙ ap (bit_or a) (or_self m)

pub many_marks : (h : ℕ) (marks : List ℕ) → length (with_mark h marks) ≡ length marks
many_marks h marks = length-set marks (bit_and h (length marks - 1)) (bit_or (marks_at h marks) (hash_mark h))

-- what stands in a bucket once a mark is added
pub marked_here : (h : ℕ) (marks : List ℕ) → 0 < length marks → IsMarked (with_mark h marks) h
marked_here h marks some =
    let low = and_le_r h (length marks - 1) in
    let here : marks_at h (with_mark h marks) ≡ bit_or (marks_at h marks) (hash_mark h) =
    ap (λ n. get_or (with_mark h marks) (bit_and h (n - 1)) 0) (many_marks h marks)
    ∙ get_or-set_same marks (bit_and h (length marks - 1)) (bit_or (marks_at h marks) (hash_mark h)) 0 (omega arith) in
    ap (λ w. bit_or w (hash_mark h)) here ∙ added_mark (marks_at h marks) (hash_mark h) ∙ sym here

pub marked_still : (h k : ℕ) (marks : List ℕ) → 0 < length marks → IsMarked marks k → IsMarked (with_mark h marks) k
marked_still h k marks some is =
    let low = and_le_r h (length marks - 1) in
    let same : marks_at k (with_mark h marks) ≡ get_or (with_mark h marks) (bit_and k (length marks - 1)) 0 =
    ap (λ n. get_or (with_mark h marks) (bit_and k (n - 1)) 0) (many_marks h marks) in
    elim (cases_eq (bit_and k (length marks - 1)) (bit_and h (length marks - 1))) [
      | inl e ↦
          let at : marks_at k marks ≡ marks_at h marks = ap (λ b. get_or marks b 0) e in
          let here : marks_at k (with_mark h marks) ≡ bit_or (marks_at k marks) (hash_mark h) =
          same ∙ ap (λ b. get_or (with_mark h marks) b 0) e
          ∙ get_or-set_same marks (bit_and h (length marks - 1)) (bit_or (marks_at h marks) (hash_mark h)) 0 (omega arith)
          ∙ ap (λ w. bit_or w (hash_mark h)) (sym at) in
          ap (λ w. bit_or w (hash_mark k)) here ∙ kept_mark (marks_at k marks) (hash_mark k) (hash_mark h) is ∙ sym here
      | inr o ↦
          let here : marks_at k (with_mark h marks) ≡ marks_at k marks =
          same ∙ get_or-set_other marks (bit_and h (length marks - 1)) (bit_and k (length marks - 1)) (bit_or (marks_at h marks) (hash_mark h)) 0 o in
          ap (λ w. bit_or w (hash_mark k)) here ∙ is ∙ sym here
    ]

-- one number more
pub marked_push : (hashes marks : List ℕ) (h : ℕ) → 0 < length marks → AreMarked hashes marks → AreMarked (hashes ++ h ∷ []) (with_mark h marks)
marked_push hashes marks h some all i l =
    elim (cases_eq i (length hashes)) [
      | inl e ↦ subst (IsMarked (with_mark h marks)) (sym (get_or_push hashes h 0 i (sym e))) (marked_here h marks some)
      | inr o ↦
          let below : i < length hashes = let w = length_push hashes h in omega arith in
          subst (IsMarked (with_mark h marks)) (sym (get_or_append_left hashes (h ∷ []) 0 i below)) (marked_still h (hash_at hashes i) marks some (all i below))
    ]

-- one number less
pub marked_front : (hashes marks : List ℕ) (h : ℕ) → AreMarked (hashes ++ h ∷ []) marks → AreMarked hashes marks
marked_front hashes marks h all i l =
    subst (IsMarked marks) (get_or_append_left hashes (h ∷ []) 0 i l) (all i (let w = length_push hashes h in omega arith))

-- a hash whose mark is not there is no number's
pub no_number : (hashes marks : List ℕ) (h n : ℕ) → n ≡ length hashes → AreMarked hashes marks → (IsMarked marks h → ⊥) → LeadsTo (hash_at hashes) n h 0
no_number hashes marks h n is all not = record {
  within = omega arith;
  has = λ l. absurd (omega arith);
  passed = λ i k m e. not (subst (IsMarked marks) e (all i (omega arith)));
}

-- one number more of those that are marked in turn
pub marked_on : (hashes marks : List ℕ) (h n : ℕ) → 0 < length marks → h ≡ hash_at hashes n → ((i : ℕ) → i < n → IsMarked marks (hash_at hashes i)) → (i : ℕ) → i < n + 1 → IsMarked (with_mark h marks) (hash_at hashes i)
marked_on hashes marks h n some is all i l =
    elim (cases_eq i n) [
      | inl e ↦ subst (IsMarked (with_mark h marks)) (is ∙ ap (hash_at hashes) (sym e)) (marked_here h marks some)
      | inr o ↦ marked_still h (hash_at hashes i) marks some (all i (omega arith))
    ]

pub no_hash : (hashes : List ℕ) (h n : ℕ) → n ≡ 0 → LeadsTo (hash_at hashes) n h 0
no_hash hashes h n none = record { within = omega arith; has = λ l. absurd (omega arith); passed = λ i k m. absurd (omega arith) }

-- as it is where numbers are entered and forgotten
pub found_push : (links more : List Link) (buckets marks more_buckets more_marks : List ℕ) (h k : ℕ) → 0 < length marks → more ≡ links ++ (record { hash = h; next = k }) ∷ [] → more_marks ≡ with_mark h marks → length more_buckets ≡ length buckets → AreChains (hashes_of more) (nexts_of more) more_buckets → AreFound links buckets marks → AreFound more more_buckets more_marks
found_push links more buckets marks more_buckets more_marks h k some is marked size chains old = record {
  chains = chains;
  marked =
      subst (AreMarked (hashes_of more)) (sym marked)
      (subst (λ w. AreMarked w (with_mark h marks)) (sym (ap hashes_of is ∙ map_push (λ l. l.hash) links (record { hash = h; next = k })))
      (marked_push (hashes_of links) marks h some old.marked));
  count = ap length marked ∙ many_marks h marks ∙ old.count ∙ sym size;
}

pub found_pop : (links left : List Link) (buckets marks less : List ℕ) (l : Link) → links ≡ left ++ l ∷ [] → length less ≡ length buckets → AreChains (hashes_of left) (nexts_of left) less → AreFound links buckets marks → AreFound left less marks
found_pop links left buckets marks less l is size chains old = record {
  chains = chains;
  marked = marked_front (hashes_of left) marks l.hash (subst (λ w. AreMarked w marks) (ap hashes_of is ∙ map_push (λ l. l.hash) left l) old.marked);
  count = old.count ∙ sym size;
}

-- all numbers are linked and marked anew
pub found_anew : (links more : List Link) (buckets marks new_buckets new_marks : List ℕ) (n : ℕ) → hashes_of more ≡ hashes_of links → length new_buckets ≡ n → length new_marks ≡ n → length links ≤ n → AreLinked (n - 1) (length links) (hashes_of links) (nexts_of more) new_buckets → AreMarked (hashes_of more) new_marks → AreFound links buckets marks → AreFound more new_buckets new_marks
found_anew links more buckets marks new_buckets new_marks n same size as_many room linked marked old = record {
  chains = record {
    few = subst (λ w. length w < 2 ^ 32) (sym same) old.chains.few;
    room = omega (arith, ap length same, count_of links);
    links = length-map more (λ l. l.next) ∙ sym (count_of more);
    linked =
        subst (λ m. AreLinked (m - 1) (length (hashes_of more)) (hashes_of more) (nexts_of more) new_buckets) (sym size)
        (subst (λ w. AreLinked (n - 1) (length w) w (nexts_of more) new_buckets) (sym same)
        (subst (λ k. AreLinked (n - 1) k (hashes_of links) (nexts_of more) new_buckets) (sym (count_of links)) linked));
  };
  marked = marked;
  count = as_many ∙ sym size;
}

-- in buckets that are empty no number is linked
pub none_linked : (mask n : ℕ) (hashes next buckets : List ℕ) → buckets ≡ replicate n 0 → AreLinked mask 0 hashes next buckets
none_linked mask n hashes next buckets empty = record {
  heads = λ b l.
      subst (LeadsTo (bucket_at mask hashes) 0 b) (sym (ap (λ w. get_or w b 0) empty ∙ get_or-replicate n b 0 0 (omega (arith, ap length empty, length-replicate {A = ℕ} n 0))))
      (record { within = omega arith; has = λ k. absurd (omega arith); passed = λ i k m. absurd (omega arith) });
  nexts = λ i l. absurd (omega arith);
}
