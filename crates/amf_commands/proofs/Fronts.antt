-- Pieces that were written one after another.
use Rattle.std.proofs.Common.{OnOk, ◌≡◌, List, ℕ, ◌++◌, Result, Ok, Err, ap, ◌∙◌, append_assoc}
use Rattle.amf_io.specs.declared.source.Failed.{Failed}
use Rattle.amf_io.specs.Written.{Writes}

joined : (held now front rest : List ℕ) → now ≡ held ++ front → now ++ rest ≡ held ++ (front ++ rest)
joined held now front rest e = ap (λ l. l ++ rest) e ∙ append_assoc held front rest

-- seven pieces
pub seven_written : (r : Result (Unit {0}) Failed) (held one two three four five six now a b c d e f g : List ℕ) → one ≡ held ++ a → two ≡ one ++ b → three ≡ two ++ c → four ≡ three ++ d → five ≡ four ++ e → six ≡ five ++ f → Writes six now g r → OnOk r (now ≡ held ++ (a ++ b ++ c ++ d ++ e ++ f ++ g))
seven_written (Ok done) held one two three four five six now a b c d e f g h i j k l m w =
    let first = i ∙ joined held one a b h in
    let second = j ∙ joined held two (a ++ b) c first in
    let third = k ∙ joined held three (a ++ b ++ c) d second in
    let fourth = l ∙ joined held four (a ++ b ++ c ++ d) e third in
    let fifth = m ∙ joined held five (a ++ b ++ c ++ d ++ e) f fourth in
    w ∙ joined held six (a ++ b ++ c ++ d ++ e ++ f) g fifth
seven_written (Err x) held one two three four five six now a b c d e f g h i j k l m w = tt
