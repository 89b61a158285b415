-- Chains of numbers, where numbers are entered, linked anew, looked up and forgotten.
use Rattle.std.proofs.Common.{◌≡◌, ◌≢◌, ℕ, ◌+◌, ◌-◌, ◌<◌, ◌≤◌, ◌^◌, List, [], ◌∷◌, ◌++◌, length, get_or, set, take, sym, refl, ap, ◌∙◌, subst, inl, inr, arith, get_or-set_same, get_or-set_other}
use Rattle.std.proofs.lemmas.Bool.{cases_eq, cases_lt}
use Rattle.std.proofs.lemmas.List.{length-set, get_or_append_left, get_or_push, get_or_default, get_or-take, take_at, length_push, length-map, length-take, map_push, map-set}
use Rattle.std.proofs.lemmas.Nat.{and_le_r}
use Rattle.std.proofs.Math.ListN.{get_or-map}
use Rattle.std.proofs.Math.Seq.{map-set_same}
use Rattle.std.specs.Int.Bits.{bit_and}
use Rattle.amf_graph.specs.declared.chains.Link.{Link}
use Rattle.amf_graph.specs.Chains.{LeadsTo, hash_at, bucket_at, hashes_of, nexts_of, AreNexts, AreLinked, AreChains}

-- What is kept of each number.

pub count_of : (links : List Link) → length (hashes_of links) ≡ length links
count_of links = length-map links (λ l. l.hash)

abbrev pub no_link : Link
no_link = record { hash = 0; next = 0 }

pub hash_kept : (links : List Link) (i : ℕ) → (get_or links i no_link).hash ≡ hash_at (hashes_of links) i
hash_kept links i = sym (get_or-map (λ l. l.hash) links i no_link)

pub next_kept : (links : List Link) (i : ℕ) → (get_or links i no_link).next ≡ get_or (nexts_of links) i 0
next_kept links i = sym (get_or-map (λ l. l.next) links i no_link)

-- a link on the way from a bucket's first to one of a hash: no number of this hash was passed
pub record OnTheWay (mask bound : ℕ) (hashes : List ℕ) (wanted link : ℕ) : Type 0 where
  pub within : link ≤ bound
  pub bucket : 0 < link → bucket_at mask hashes (link - 1) ≡ bit_and wanted mask
  pub passed : (i : ℕ) → link ≤ i → i < bound → hash_at hashes i ≢ wanted

-- a link of other keys that are the same below the bound
leads_along : (key more : ℕ → ℕ) (bound wanted link : ℕ) → ((i : ℕ) → i < bound → more i ≡ key i) → LeadsTo key bound wanted link → LeadsTo more bound wanted link
leads_along key more bound wanted link same h = record {
  within = h.within;
  has = λ l. same (link - 1) (let w = h.within in omega arith) ∙ h.has l;
  passed = λ i l k e. h.passed i l k (sym (same i k) ∙ e);
}

-- what links say depends on the numbers that are linked alone
pub linked_along : (mask n : ℕ) (hashes more next links buckets : List ℕ) → ((i : ℕ) → i < n → hash_at more i ≡ hash_at hashes i) → ((i : ℕ) → i < n → get_or links i 0 ≡ get_or next i 0) → AreLinked mask n hashes next buckets → AreLinked mask n more links buckets
linked_along mask n hashes more next links buckets same kept h = record {
  heads = λ b l. leads_along (bucket_at mask hashes) (bucket_at mask more) n b (get_or buckets b 0) (λ i k. ap (λ x. bit_and x mask) (same i k)) (h.heads b l);
  nexts = λ i l.
      let one : LeadsTo (bucket_at mask more) i (bucket_at mask hashes i) (get_or next i 0) = leads_along (bucket_at mask hashes) (bucket_at mask more) i (bucket_at mask hashes i) (get_or next i 0) (λ j k. ap (λ x. bit_and x mask) (same j (omega arith))) (h.nexts i l) in
      subst (λ w. LeadsTo (bucket_at mask more) i (bucket_at mask more i) w) (sym (kept i l)) (subst (λ w. LeadsTo (bucket_at mask more) i w (get_or next i 0)) (ap (λ x. bit_and x mask) (sym (same i l))) one);
}

-- one number more: its link is the one that its bucket had
head_linked : (mask n : ℕ) (hashes buckets : List ℕ) → bucket_at mask hashes n < length buckets → ((b : ℕ) → b < length buckets → LeadsTo (bucket_at mask hashes) n b (get_or buckets b 0)) → (b : ℕ) → b < length buckets → LeadsTo (bucket_at mask hashes) (n + 1) b (get_or (set buckets (bucket_at mask hashes n) (n + 1)) b 0)
head_linked mask n hashes buckets there heads b l =
    elim (cases_eq b (bucket_at mask hashes n)) [
      | inl e ↦ subst (λ w. LeadsTo (bucket_at mask hashes) (n + 1) w (get_or (set buckets (bucket_at mask hashes n) (n + 1)) w 0)) (sym e) (subst (LeadsTo (bucket_at mask hashes) (n + 1) (bucket_at mask hashes n)) (sym (get_or-set_same buckets (bucket_at mask hashes n) (n + 1) 0 there)) (record { within = omega arith; has = λ k. ap (bucket_at mask hashes) (omega arith); passed = λ i k m. absurd (omega arith) }))
      | inr o ↦
          let old = heads b l in
          subst (LeadsTo (bucket_at mask hashes) (n + 1) b) (sym (get_or-set_other buckets (bucket_at mask hashes n) b (n + 1) 0 o)) (record {
            within = let w = old.within in omega arith;
            has = old.has;
            passed = λ i k m e. elim (cases_eq i n) [ inl s ↦ o (sym e ∙ ap (bucket_at mask hashes) s) | inr d ↦ old.passed i k (omega arith) e ];
          })
    ]

pub one_linked : (mask n : ℕ) (hashes next buckets : List ℕ) → mask < length buckets → get_or next n 0 ≡ get_or buckets (bucket_at mask hashes n) 0 → AreLinked mask n hashes next buckets → AreLinked mask (n + 1) hashes next (set buckets (bucket_at mask hashes n) (n + 1))
one_linked mask n hashes next buckets room is h =
    let there : bucket_at mask hashes n < length buckets = let w = and_le_r (hash_at hashes n) mask in omega arith in
    record {
      heads = λ b l. head_linked mask n hashes buckets there h.heads b (subst (λ w. b < w) (length-set buckets (bucket_at mask hashes n) (n + 1)) l);
      nexts = λ i l. elim (cases_eq i n) [
        | inl e ↦ subst (λ w. LeadsTo (bucket_at mask hashes) w (bucket_at mask hashes w) (get_or next w 0)) (sym e) (subst (LeadsTo (bucket_at mask hashes) n (bucket_at mask hashes n)) (sym is) (h.heads (bucket_at mask hashes n) there))
        | inr o ↦ h.nexts i (omega arith)
      ];
    }

-- as it is done where all are linked anew
pub relinked : (mask place head : ℕ) (first links : List Link) (buckets more : List ℕ) → hashes_of links ≡ hashes_of first → mask < length buckets → place < length links → head ≡ get_or buckets (bit_and (get_or links place no_link).hash mask) 0 → more ≡ set buckets (bit_and (get_or links place no_link).hash mask) (place + 1) → AreLinked mask place (hashes_of first) (nexts_of links) buckets → AreLinked mask (place + 1) (hashes_of first) (nexts_of (set links place (record { hash = (get_or links place no_link).hash; next = head }))) more
relinked mask place head first links buckets more same room there read entered h =
    let l : Link = record { hash = (get_or links place no_link).hash; next = head } in
    let hash_is : (get_or links place no_link).hash ≡ hash_at (hashes_of first) place = hash_kept links place ∙ ap (λ w. hash_at w place) same in
    let nexts : nexts_of (set links place l) ≡ set (nexts_of links) place head = map-set (λ w. w.next) links place l in
    let many : length (nexts_of links) ≡ length links = length-map links (λ w. w.next) in
    let kept : AreLinked mask place (hashes_of first) (set (nexts_of links) place head) buckets = linked_along mask place (hashes_of first) (hashes_of first) (nexts_of links) (set (nexts_of links) place head) buckets (λ i k. refl) (λ i k. get_or-set_other (nexts_of links) place i head 0 (λ e. absurd (omega arith))) h in
    let one = one_linked mask place (hashes_of first) (set (nexts_of links) place head) buckets room (get_or-set_same (nexts_of links) place head 0 (omega arith) ∙ read ∙ ap (λ w. get_or buckets (bit_and w mask) 0) hash_is) kept in
    subst (λ w. AreLinked mask (place + 1) (hashes_of first) w more) (sym nexts)
    (subst (AreLinked mask (place + 1) (hashes_of first) (set (nexts_of links) place head)) (sym (entered ∙ ap (λ w. set buckets (bit_and w mask) (place + 1)) hash_is)) one)

pub same_hashes : (links : List Link) (place head : ℕ) → hashes_of (set links place (record { hash = (get_or links place no_link).hash; next = head })) ≡ hashes_of links
same_hashes links place head = map-set_same (λ l. l.hash) links place (record { hash = (get_or links place no_link).hash; next = head }) no_link refl

-- one number less: its bucket gets the link that it had
pub one_unlinked : (mask n : ℕ) (hashes next buckets : List ℕ) → mask < length buckets → AreLinked mask (n + 1) hashes next buckets → AreLinked mask n hashes next (set buckets (bucket_at mask hashes n) (get_or next n 0))
one_unlinked mask n hashes next buckets room h =
    let there : bucket_at mask hashes n < length buckets = let w = and_le_r (hash_at hashes n) mask in omega arith in
    record {
      heads = λ b l. less b (subst (λ w. b < w) (length-set buckets (bucket_at mask hashes n) (get_or next n 0)) l);
      nexts = λ i l. h.nexts i (omega arith);
    }
  where
    less : (b : ℕ) → b < length buckets → LeadsTo (bucket_at mask hashes) n b (get_or (set buckets (bucket_at mask hashes n) (get_or next n 0)) b 0)
    less b l =
        elim (cases_eq b (bucket_at mask hashes n)) [
          | inl e ↦ subst (λ w. LeadsTo (bucket_at mask hashes) n w (get_or (set buckets (bucket_at mask hashes n) (get_or next n 0)) w 0)) (sym e) (subst (LeadsTo (bucket_at mask hashes) n (bucket_at mask hashes n)) (sym (get_or-set_same buckets (bucket_at mask hashes n) (get_or next n 0) 0 (subst (λ w. w < length buckets) e l))) (h.nexts n (omega arith)))
          | inr o ↦ subst (LeadsTo (bucket_at mask hashes) n b) (sym (get_or-set_other buckets (bucket_at mask hashes n) b (get_or next n 0) 0 o)) (lower b (get_or buckets b 0) o (h.heads b l))
        ]
      where
        lower : (b link : ℕ) → b ≢ bucket_at mask hashes n → LeadsTo (bucket_at mask hashes) (n + 1) b link → LeadsTo (bucket_at mask hashes) n b link
        lower b link o old = record {
          within = elim (cases_eq link (n + 1)) [
            | inl e ↦ absurd (o (sym (old.has (omega arith)) ∙ ap (bucket_at mask hashes) (omega arith)))
            | inr d ↦ let w = old.within in omega arith
          ];
          has = old.has;
          passed = λ i k m. old.passed i k (omega arith);
        }

-- Links as they are looked up.

-- the link that a chain has after a number of another hash
pub passed_on : (mask bound n : ℕ) (hashes next : List ℕ) (link wanted : ℕ) → AreNexts mask n hashes next → bound ≤ n → 0 < link → hash_at hashes (link - 1) ≢ wanted → OnTheWay mask bound hashes wanted link → OnTheWay mask bound hashes wanted (get_or next (link - 1) 0)
passed_on mask bound n hashes next link wanted nexts few some other h =
    let w = h.within in
    let step = nexts (link - 1) (omega arith) in
    let lower = step.within in
    record {
      within = omega arith;
      bucket = λ l. step.has l ∙ h.bucket some;
      passed = λ i k m e. elim (cases_lt i (link - 1)) [
        | inl l ↦ step.passed i k l (ap (λ x. bit_and x mask) e ∙ sym (h.bucket some))
        | inr g ↦ elim (cases_eq i (link - 1)) [ inl s ↦ other (ap (hash_at hashes) (sym s) ∙ e) | inr d ↦ h.passed i (omega arith) m e ]
      ];
    }

-- and the one at which it ends
pub arrived : (mask bound : ℕ) (hashes : List ℕ) (wanted link : ℕ) → OnTheWay mask bound hashes wanted link → (0 < link → hash_at hashes (link - 1) ≡ wanted) → LeadsTo (hash_at hashes) bound wanted link
arrived mask bound hashes wanted link h is = record { within = h.within; has = is; passed = h.passed }

pub set_off : (mask bound : ℕ) (hashes : List ℕ) (wanted link : ℕ) → LeadsTo (bucket_at mask hashes) bound (bit_and wanted mask) link → OnTheWay mask bound hashes wanted link
set_off mask bound hashes wanted link h = record {
  within = h.within;
  bucket = h.has;
  passed = λ i k m e. h.passed i k m (ap (λ x. bit_and x mask) e);
}

-- the next number has a hash and a link
pub chains_push : (hashes next buckets : List ℕ) (hash : ℕ) → length hashes + 1 < 2 ^ 32 → length hashes < length buckets → AreChains hashes next buckets → AreChains (hashes ++ hash ∷ []) (next ++ get_or buckets (bit_and hash (length buckets - 1)) 0 ∷ []) (set buckets (bit_and hash (length buckets - 1)) (length hashes + 1))
chains_push hashes next buckets hash few room h =
    let count = length-set buckets (bit_and hash (length buckets - 1)) (length hashes + 1) in
    let more = length_push hashes hash in
    let here : hash_at (hashes ++ hash ∷ []) (length hashes) ≡ hash = get_or_push hashes hash 0 (length hashes) refl in
    let head : ℕ = get_or buckets (bit_and hash (length buckets - 1)) 0 in
    let bucket : bucket_at (length buckets - 1) (hashes ++ hash ∷ []) (length hashes) ≡ bit_and hash (length buckets - 1) = ap (λ x. bit_and x (length buckets - 1)) here in
    let kept = linked_along (length buckets - 1) (length hashes) hashes (hashes ++ hash ∷ []) next (next ++ head ∷ []) buckets (λ i l. get_or_append_left hashes (hash ∷ []) 0 i l) (λ i l. get_or_append_left next (head ∷ []) 0 i (subst (λ n. i < n) (sym h.links) l)) h.linked in
    let one = one_linked (length buckets - 1) (length hashes) (hashes ++ hash ∷ []) (next ++ head ∷ []) buckets (omega arith) (get_or_push next head 0 (length hashes) h.links ∙ ap (λ b. get_or buckets b 0) (sym bucket)) kept in
    record {
      few = omega arith;
      room = omega arith;
      links = length_push next head ∙ ap (λ n. n + 1) h.links ∙ sym more;
      linked =
          subst (λ m. AreLinked (m - 1) (length (hashes ++ hash ∷ [])) (hashes ++ hash ∷ []) (next ++ head ∷ []) (set buckets (bit_and hash (length buckets - 1)) (length hashes + 1))) (sym count)
          (subst (λ n. AreLinked (length buckets - 1) n (hashes ++ hash ∷ []) (next ++ head ∷ []) (set buckets (bit_and hash (length buckets - 1)) (length hashes + 1))) (sym more)
          (subst (λ b. AreLinked (length buckets - 1) (length hashes + 1) (hashes ++ hash ∷ []) (next ++ head ∷ []) (set buckets b (length hashes + 1))) bucket one));
    }

-- the greatest number is forgotten
pub chains_pop : (n : ℕ) (hashes next buckets : List ℕ) → length hashes ≡ n + 1 → AreChains hashes next buckets → AreChains (take n hashes) (take n next) (set buckets (bucket_at (length buckets - 1) hashes n) (get_or next n 0))
chains_pop n hashes next buckets is h =
    let count = length-set buckets (bucket_at (length buckets - 1) hashes n) (get_or next n 0) in
    let left : length (take n hashes) ≡ n = length-take n hashes ∙ omega arith in
    let links : length (take n next) ≡ n = length-take n next ∙ (let w = h.links in omega arith) in
    let room = h.room in
    let few = h.few in
    let one = one_unlinked (length buckets - 1) n hashes next buckets (omega arith) (subst (λ m. AreLinked (length buckets - 1) m hashes next buckets) is h.linked) in
    let kept = linked_along (length buckets - 1) n hashes (take n hashes) next (take n next) (set buckets (bucket_at (length buckets - 1) hashes n) (get_or next n 0)) (λ i l. get_or-take n hashes i 0 l) (λ i l. get_or-take n next i 0 l) one in
    record {
      few = omega arith;
      room = omega arith;
      links = links ∙ sym left;
      linked =
          subst (λ m. AreLinked (m - 1) (length (take n hashes)) (take n hashes) (take n next) (set buckets (bucket_at (length buckets - 1) hashes n) (get_or next n 0))) (sym count)
          (subst (λ m. AreLinked (length buckets - 1) m (take n hashes) (take n next) (set buckets (bucket_at (length buckets - 1) hashes n) (get_or next n 0))) (sym left) kept);
    }

-- as it is done
pushed : (hashes next buckets hashes' next' : List ℕ) (hash number count bucket head : ℕ) → hashes' ≡ hashes ++ hash ∷ [] → next' ≡ next ++ head ∷ [] → head ≡ get_or buckets bucket head → bucket ≡ bit_and hash (count - 1) → count ≡ length buckets → number ≡ length hashes → number + 1 < 2 ^ 32 → length hashes < length buckets → AreChains hashes next buckets → AreChains hashes' next' (set buckets bucket (number + 1))
pushed hashes next buckets hashes' next' hash number count bucket head more links read is size at few room h =
    let masked : bit_and hash (count - 1) ≡ bit_and hash (length buckets - 1) = ap (λ n. bit_and hash (n - 1)) size in
    let found : bucket ≡ bit_and hash (length buckets - 1) = is ∙ masked in
    let low = and_le_r hash (length buckets - 1) in
    let there : bucket < length buckets = omega arith in
    let first : head ≡ get_or buckets (bit_and hash (length buckets - 1)) 0 = read ∙ get_or_default buckets bucket head 0 there ∙ ap (λ b. get_or buckets b 0) found in
    let all = chains_push hashes next buckets hash (omega arith) room h in
    subst (λ w. AreChains w next' (set buckets bucket (number + 1))) (sym more)
    (subst (λ w. AreChains (hashes ++ hash ∷ []) w (set buckets bucket (number + 1))) (sym links)
    (subst (λ w. AreChains (hashes ++ hash ∷ []) (next ++ w ∷ []) (set buckets bucket (number + 1))) (sym first)
    (subst (λ w. AreChains (hashes ++ hash ∷ []) (next ++ get_or buckets (bit_and hash (length buckets - 1)) 0 ∷ []) (set buckets w (number + 1))) (sym found)
    (subst (λ w. AreChains (hashes ++ hash ∷ []) (next ++ get_or buckets (bit_and hash (length buckets - 1)) 0 ∷ []) (set buckets (bit_and hash (length buckets - 1)) (w + 1))) (sym at) all))))

popped : (hashes next buckets hashes' next' : List ℕ) (hash link count bucket : ℕ) → hashes ≡ hashes' ++ hash ∷ [] → next ≡ next' ++ link ∷ [] → bucket ≡ bit_and hash (count - 1) → count ≡ length buckets → AreChains hashes next buckets → AreChains hashes' next' (set buckets bucket link)
popped hashes next buckets hashes' next' hash link count bucket last lead is size h =
    let many : length hashes ≡ length hashes' + 1 = ap length last ∙ length_push hashes' hash in
    let less : length next' ≡ length hashes' = let w = ap length lead ∙ length_push next' link in let v = h.links in omega arith in
    let all = chains_pop (length hashes') hashes next buckets many h in
    let one : take (length hashes') hashes ≡ hashes' = ap (take (length hashes')) last ∙ take_at hashes' (hash ∷ []) (length hashes') refl in
    let two : take (length hashes') next ≡ next' = ap (take (length hashes')) lead ∙ take_at next' (link ∷ []) (length hashes') less in
    let hash_is : hash_at hashes (length hashes') ≡ hash = ap (λ w. hash_at w (length hashes')) last ∙ get_or_push hashes' hash 0 (length hashes') refl in
    let link_is : get_or next (length hashes') 0 ≡ link = ap (λ w. get_or w (length hashes') 0) lead ∙ get_or_push next' link 0 (length hashes') less in
    let bucket_is : bucket_at (length buckets - 1) hashes (length hashes') ≡ bucket = ap (λ w. bit_and w (length buckets - 1)) hash_is ∙ ap (λ n. bit_and hash (n - 1)) (sym size) ∙ sym is in
    subst (λ w. AreChains w next' (set buckets bucket link)) one
    (subst (λ w. AreChains (take (length hashes') hashes) w (set buckets bucket link)) two
    (subst (λ w. AreChains (take (length hashes') hashes) (take (length hashes') next) (set buckets w link)) bucket_is
    (subst (λ w. AreChains (take (length hashes') hashes) (take (length hashes') next) (set buckets (bucket_at (length buckets - 1) hashes (length hashes')) w)) link_is all)))

pub link_pushed : (links more : List Link) (buckets : List ℕ) (hash number count bucket head : ℕ) → more ≡ links ++ (record { hash = hash; next = head }) ∷ [] → head ≡ get_or buckets bucket head → bucket ≡ bit_and hash (count - 1) → count ≡ length buckets → number ≡ length links → number + 1 < 2 ^ 32 → length links < length buckets → AreChains (hashes_of links) (nexts_of links) buckets → AreChains (hashes_of more) (nexts_of more) (set buckets bucket (number + 1))
link_pushed links more buckets hash number count bucket head e read is size at few room h =
    let l : Link = record { hash = hash; next = head } in
    let many = count_of links in
    pushed (hashes_of links) (nexts_of links) buckets (hashes_of more) (nexts_of more) hash number count bucket head (ap hashes_of e ∙ map_push (λ w. w.hash) links l) (ap nexts_of e ∙ map_push (λ w. w.next) links l) read is size (omega arith) few (omega arith) h

pub link_popped : (links left : List Link) (buckets : List ℕ) (l : Link) (count bucket : ℕ) → links ≡ left ++ l ∷ [] → bucket ≡ bit_and l.hash (count - 1) → count ≡ length buckets → AreChains (hashes_of links) (nexts_of links) buckets → AreChains (hashes_of left) (nexts_of left) (set buckets bucket l.next)
link_popped links left buckets l count bucket e is size h =
    popped (hashes_of links) (nexts_of links) buckets (hashes_of left) (nexts_of left) l.hash l.next count bucket (ap hashes_of e ∙ map_push (λ w. w.hash) left l) (ap nexts_of e ∙ map_push (λ w. w.next) left l) is size h
