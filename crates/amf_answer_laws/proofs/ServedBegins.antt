-- What serving a link did is a beginning of what the link is answered.
use Rattle.std.proofs.Common.{◌≡◌, ℕ, List, [], ◌∷◌, ◌++◌, refl, sym, ap, ◌∙◌, append_assoc, append-nil}
use Rattle.amf_service.specs.Registry.{Entry}
use Rattle.amf_answer_plan.specs.Links.{link}
use Rattle.amf_answer_plan.specs.Respond.{Responded, Responds, joined, written}
use Rattle.amf_answer_plan.specs.RespondLaws.{AreLawful, BegunIsBeginning, IsBeginning}
use Rattle.amf_answer_plan.specs.Runs.{Supply, gave}
use Rattle.amf_answer_plan.specs.Serving.{ServeEnd, ended, read_fault, write_fault, no_memory, spent, LinkBytes, Taken, supply_of, calls_of, did, none_left, Partly, AreWritten, Serves, more, ServedIsBeginning}
use Rattle.amf_answer_plan.proofs.Composed.{begun_more, runs_begun}

joined_both : (xs ys : List (List ℕ)) → joined (xs ++ ys) ≡ joined xs ++ joined ys
joined_both [] ys = refl
joined_both (x ∷ xs) ys = ap (λ z. x ++ z) (joined_both xs ys) ∙ sym (append_assoc x (joined xs) (joined ys))

joined_begins : (xs ys : List (List ℕ)) → IsBeginning xs ys → IsBeginning (joined xs) (joined ys)
joined_begins xs ys (rest, e) = (joined rest, ap joined e ∙ joined_both xs rest)

across : (x y z : List ℕ) → IsBeginning x y → IsBeginning y z → IsBeginning x z
across x y z (r, e) (q, f) = (r ++ q, f ∙ ap (λ w. w ++ q) e ∙ append_assoc x r q)

-- what is held, and then a beginning
held_begins : (b : LinkBytes) (x y : List ℕ) → AreWritten b x → IsBeginning x y → IsBeginning b.now (b.held ++ y)
held_begins b x y e (r, f) = (r, ap (λ w. b.held ++ w) f ∙ sym (append_assoc b.held x r) ∙ ap (λ w. w ++ r) (sym e))

cut_begins : (answers : List (List ℕ)) (front back : List ℕ) → IsBeginning (joined answers ++ front) (joined (answers ++ (front ++ back) ∷ []))
cut_begins answers front back =
    (back ++ [], joined_both answers ((front ++ back) ∷ []) ∙ ap (λ w. joined answers ++ w) (append_assoc front back []) ∙ sym (append_assoc (joined answers) front (back ++ [])))

module _ (beginning : BegunIsBeginning) (services : List Entry) (lawful : AreLawful services) (b : LinkBytes) (k : Taken) (u : Supply) (t : Responded) (r : Responds services b.left (more (supply_of k) u) t) where
  part_begins : (answers : List (List ℕ)) (x : List ℕ) → Partly (link services b.left) k answers → IsBeginning x (joined answers) → AreWritten b x → IsBeginning (calls_of k) t.calls × IsBeginning b.now (b.held ++ written t)
  part_begins answers x p i w =
      let first = beginning services lawful b.left (more (supply_of k) u) (did k answers) t (begun_more (link services b.left) (supply_of k) u (did k answers) p) r in
      (first.0, held_begins b x (written t) w (across x (joined answers) (written t) i (joined_begins answers t.answers first.1)))

  same_begins : (x : List ℕ) → IsBeginning x x
  same_begins x = ([], sym (append-nil x))

  pub served_begins : (end : ServeEnd) → Serves services b k end → IsBeginning (calls_of k) t.calls × IsBeginning b.now (b.held ++ written t)
  served_begins (ended end) (answers, whole, w) =
      part_begins answers (joined answers) (runs_begun (link services b.left) (supply_of k) (did k answers) (gave end none_left) whole) (same_begins (joined answers)) w
  served_begins read_fault (answers, came, end, parts, whole, p, w) = part_begins answers (joined answers) p (same_begins (joined answers)) w
  served_begins write_fault (answers, front, back, p, w) = part_begins (answers ++ (front ++ back) ∷ []) (joined answers ++ front) p (cut_begins answers front back) w
  served_begins no_memory (answers, p, w) = part_begins answers (joined answers) p (same_begins (joined answers)) w
  served_begins spent (answers, p, w) = part_begins answers (joined answers) p (same_begins (joined answers)) w

pub served_is_beginning : BegunIsBeginning → ServedIsBeginning
served_is_beginning beginning services lawful b k end s u t r = served_begins beginning services lawful b k u t r end s
