-- The worked rows that are more than a computation.
use Rattle.std.proofs.Common.{◌≡◌, ◌∙◌, ℕ, zero, suc, ◌≤◌, List, [], ◌∷◌, ◌++◌, length, take, length-take, length-append, ap, sym, refl, arith, inl, inr, pos}
use Rattle.std.specs.Prelude.{codes, decimal}
use Rattle.std.specs.Int.{to_be_bytes, w16}
use Rattle.std.proofs.lemmas.Fmt.{decimal_digit, decimal_step}
use Rattle.std.proofs.lemmas.List.{append-nil}
use Rattle.httparse.specs.Grammar.{ResponseHead, print_response}
use Rattle.http_link.specs.Head.{IsHead}
use Rattle.amf_io.specs.Field.{Field, flat}
use Rattle.amf_wire.specs.Style.{Style, canonical}
use Rattle.amf_wire.proofs.TextTest.{is_text-is}
use Rattle.amf_graph.specs.Graph.{Value, leaf, node, integer, Graph, node_at}
use Rattle.amf_graph.specs.Reached.{IsNamed, at_root}
use Rattle.amf3_spelling.specs.Headers3.{HeaderBy}
use Rattle.amf3_spelling.specs.Segments3.{value, Lifted}
use Rattle.amf3_spelling.specs.Spells3.{InlineIn, SpellsIn}
use Rattle.amf3_spelling.specs.Tables.{Tables, no_tables, add_node}
use Rattle.amf3_spelling.specs.Then.{Spelling}
use Rattle.amf3_spelling.proofs.Build.{Built, both, lifted, an_integer, no_text, a_node, no_segments, word_segment, value_segment, absent_nil}
use Rattle.amf_packet.specs.Unpacked.{IsNoPacket}
use Rattle.amf_client.specs.Asking.{head_with, packet_with, IsAsk}
use Rattle.amf_client.specs.Meant.{GraphMeans, MessagesMean, Means}
use Rattle.amf_client.specs.Outcomes.{bad, result, IsResult, cut}
use Rattle.amf_client.specs.Reply.{Spells, no_head, IsRefused, bad_head}
use Rattle.amf_client.specs.Rows.{message, nameless, sealed_nameless, two_and_three}
use Rattle.amf_client.proofs.AnswerLemmas.{four, open_nothing}
use Rattle.amf_client.proofs.AskLemmas.{packet_spelled}

pub no_bytes_cut : IsResult Means [] (bad 7) []
no_bytes_cut = cut open_nothing refl

-- An empty line alone is no head, which has a version.

abbrev bare : List ℕ
bare = 13 ∷ 10 ∷ 13 ∷ 10 ∷ []

has_version : (h : ResponseHead) → 8 ≤ length (print_response h)
unfolding print_response
has_version h = simp length-append (omega arith)

bare_ends : IsHead bare
bare_ends = record {
  ends = record { before = []; parts = refl };
  first = record { none = λ k less ends. absurd (omega (arith, less, four (take k bare) ends, length-take k bare)) };
  within = omega arith;
}

nothing_spells : (h : ResponseHead) → Spells bare h → ⊥
nothing_spells h s =
    let whole : length bare ≡ length (print_response h) = ap length (s.reads.1 ∙ append-nil (print_response h)) in
    absurd (omega (arith, whole, has_version h))

pub bare_refused : IsRefused bare 1
bare_refused = bad_head bare [] bare_ends refl (no_head refl nothing_spells)

-- An empty body has no version.

no_packet : IsNoPacket []
no_packet p (fs, (front, back, joined, (known, is), more), e) =
    let none : ◌≡◌ {A = List ℕ} [] (to_be_bytes w16 p.version ++ flat back) = e ∙ ap flat joined ∙ ap (λ (f : List Field). flat (f ++ back)) is in
    let two : length (to_be_bytes w16 p.version) ≡ 2 = refl in
    absurd (omega (arith, ap length none, length-append (to_be_bytes w16 p.version) (flat back), two))

pub no_body_bad : Means [] (bad 4)
no_body_bad = inl (no_packet, refl)

-- Names.

pub nameless_bad : MessagesMean GraphMeans (message (codes "/1/onResult") nameless ∷ []) (bad 6)
nameless_bad = inr (λ named. (named 0 (at_root refl)).0 refl, refl)

sealed_named : IsNamed sealed_nameless
sealed_named zero r = tt
sealed_named (suc i) r = tt

pub sealed_result : MessagesMean GraphMeans (message (codes "/1/onResult") sealed_nameless ∷ []) (result sealed_nameless)
sealed_result = inl (sealed_named, refl)

-- The call of `sum.sum` with 2 and 3.

abbrev counted : (s : Style) (g : Graph) (i n : ℕ) (t : Tables) → HeaderBy s (node_at g i).head (node_at g i).values n t.words [] t.words → Built (Lifted (HeaderBy s (node_at g i).head (node_at g i).values n)) t
counted s g i n t h = lifted (HeaderBy s (node_at g i).head (node_at g i).values n) t (record { fields = []; after = t.words; spelled = h })

abbrev arguments : Built (SpellsIn 1 canonical two_and_three (node 0)) no_tables
arguments =
    let t : Tables = add_node no_tables 0 in
    let R : Value → Spelling Tables = SpellsIn 0 canonical two_and_three in
    let I : ℕ → Spelling Tables = InlineIn 0 canonical two_and_three in
    let two : Value = leaf (integer (pos 2)) in
    let three : Value = leaf (integer (pos 3)) in
    a_node 0 canonical two_and_three 0 no_tables [] 5 (omega arith) (absent_nil 0) tt refl refl tt (omega arith)
    (both _ _ t (counted canonical two_and_three 0 5 t (refl, (refl, refl)))
    (word_segment R canonical [] (value two ∷ value three ∷ []) t (no_text canonical t.words)
    (value_segment R canonical two (value three ∷ []) t (an_integer I canonical two_and_three 2 t (omega arith))
    (value_segment R canonical three [] t (an_integer I canonical two_and_three 3 t (omega arith)) (no_segments R canonical t)))))

abbrev sum_packet : List ℕ
sum_packet = packet_with (0 ∷ 7 ∷ []) (codes "sum.sum") (9 ∷ 5 ∷ 1 ∷ 4 ∷ 2 ∷ 4 ∷ 3 ∷ [])

one : decimal 1 ≡ codes "1"
one = decimal_digit 1 (omega arith)

thirty_one : decimal 31 ≡ codes "31"
thirty_one = decimal_step 31 (omega arith) (omega arith) ∙ ap (λ (l : List ℕ). l ++ (49 ∷ [])) (decimal_digit 3 (omega arith))

pub sum_asked : IsAsk 1 (codes "sum.sum") two_and_three (head_with (codes "1") (codes "31") ++ sum_packet)
sum_asked = record {
  packet = sum_packet;
  spelled =
      let x : Built (SpellsIn 1 canonical two_and_three (node 0)) no_tables = arguments in
      packet_spelled (codes "sum.sum") two_and_three x.fields sum_packet ((is_text-is (codes "sum.sum")).0 refl) (omega arith) (x.after, (1, x.spelled)) refl;
  whole = ap (λ (d : List ℕ). head_with d (codes "31") ++ sum_packet) (sym one) ∙ ap (λ (d : List ℕ). head_with (decimal 1) d ++ sum_packet) (sym thirty_one);
}
