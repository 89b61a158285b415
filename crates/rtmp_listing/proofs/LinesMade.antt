-- Lines, from their parts and one after another.
use Rattle.std.proofs.Common.{◌≡◌, ℕ, ◌+◌, ◌<◌, List, [], ◌∷◌, ◌++◌, length, take, get_or, Result, Ok, Err, OnOk, codes, sym, ap, ◌∙◌, append_assoc}
use Rattle.std.specs.Fmt.{decimal}
use Rattle.std.proofs.lemmas.List.{append-nil, take_more}
use Rattle.rtmp_chunks.specs.declared.parts.Open.{Open}
use Rattle.rtmp_chunks.specs.Table.{open_seen, opens_seen}
use Rattle.amf_show.specs.Shown.{line_feed}
use Rattle.rtmp_chunks.specs.Chunk.{Message}
use Rattle.rtmp_listing.specs.Listing.{message_line, open_line, open_lines}

lines_more : (l : List Open) (o : Open) → open_lines (opens_seen (l ++ o ∷ [])) ≡ open_lines (opens_seen l) ++ open_line (open_seen o)
lines_more [] o = append-nil (open_line (open_seen o))
lines_more (x ∷ l) o = ap (λ w. open_line (open_seen x) ++ w) (lines_more l o) ∙ sym (append_assoc (open_line (open_seen x)) (open_lines (opens_seen l)) (open_line (open_seen o)))

-- the line of one more
pub one_line_more : (l : List Open) (i : ℕ) (none : Open) (before mid now : List ℕ) → i < length l → mid ≡ before ++ open_lines (opens_seen (take i l)) → now ≡ mid ++ open_line (open_seen (get_or l i none)) → now ≡ before ++ open_lines (opens_seen (take (i + 1) l))
one_line_more l i none before mid now lt m n =
    let o = get_or l i none in
    n ∙ ap (λ w. w ++ open_line (open_seen o)) m ∙ append_assoc before (open_lines (opens_seen (take i l))) (open_line (open_seen o))
    ∙ ap (λ w. before ++ w) (sym (lines_more (take i l) o) ∙ ap (λ w. open_lines (opens_seen w)) (sym (take_more l i none lt)))

joined : (old a b c d e f g h i j k : List ℕ) → (((((old ++ (a ++ b)) ++ (c ++ d)) ++ (e ++ f)) ++ (g ++ h)) ++ (i ++ j)) ++ k ≡ old ++ (a ++ b ++ c ++ d ++ e ++ f ++ g ++ h ++ i ++ j ++ k)
joined old a b c d e f g h i j k = simp append_assoc

-- the line of a message
pub message_lined : {E : Type 0} (r : Result (Unit {0}) E) (m : Message) (old one two three four five now : List ℕ) → one ≡ old ++ (codes "message id " ++ decimal m.id) → two ≡ one ++ (codes " type " ++ decimal m.type) → three ≡ two ++ (codes " stream " ++ decimal m.stream)
    → four ≡ three ++ (codes " time " ++ decimal m.time) → five ≡ four ++ (codes " length " ++ decimal (length m.bytes)) → OnOk r (now ≡ five ++ line_feed) → OnOk r (now ≡ old ++ message_line m)
unfolding message_line
message_lined (Err x) m old one two three four five now p q s t u w = tt
message_lined (Ok done) m old one two three four five now p q s t u w =
    w
    ∙ ap (λ l. l ++ line_feed) (u ∙ ap (λ l. l ++ (codes " length " ++ decimal (length m.bytes))) (t ∙ ap (λ l. l ++ (codes " time " ++ decimal m.time)) (s ∙ ap (λ l. l ++ (codes " stream " ++ decimal m.stream)) (q ∙ ap (λ l. l ++ (codes " type " ++ decimal m.type)) p))))
    ∙ joined old (codes "message id ") (decimal m.id) (codes " type ") (decimal m.type) (codes " stream ") (decimal m.stream) (codes " time ") (decimal m.time) (codes " length ") (decimal (length m.bytes)) line_feed
