-- An input that a command accepts: it is not refused, and what is written of it holds of all graphs that it spells.
use Rattle.std.proofs.Common.{◌≡◌, inl, inr, false, ℕ, ◌+◌, ◌-◌, ◌<◌, ◌≤◌, List, [], ◌++◌, length, length-append, take, refl, sym, ap, ◌∙◌, subst, arith}
use Rattle.std.proofs.lemmas.List.{append-nil, take_all, take_at}
use Rattle.amf_io.specs.declared.reason.Reason.{Reason}
use Rattle.amf_io.specs.Field.{Field, flat}
use Rattle.amf_io.specs.Layout.{Layout, Runs, give, IsLayout}
use Rattle.amf_io.specs.Outcomes.{Done, Bad, Short, run}
use Rattle.amf_io.specs.Verdict.{IsFault, IsCutOff, IsAccepted, faulty, truncated, too_large, IsInputRefused, refused, trailing}
use Rattle.amf_io.proofs.Inputs.{judged_once}
use Rattle.amf_io.proofs.Paths.{runs_run, runs_bind, flat-append}
use Rattle.amf_io.proofs.Unique.{fault_run}
use Rattle.amf_io.proofs.Verdicts.{accepts, short_run}
use Rattle.amf_wire.specs.Style.{free}
use Rattle.amf_graph.specs.declared.lack.Lack.{Lack}
use Rattle.amf_graph.specs.Graph.{Graph}
use Rattle.amf_graph.specs.Isomorphic.{Isomorphic}
use Rattle.amf_graph.proofs.Isomorphisms.{isomorphic_sym, isomorphic_trans}
use Rattle.amf_packet.specs.Packet.{IsPacketReading}
use Rattle.amf_packet.proofs.PacketVerdicts.{packet_verdicts}
use Rattle.amf_listings.proofs.PacketLawRows.{packet_laws}
use Rattle.amf_show.proofs.Alike.{counted_alike, listed_alike}
use Rattle.amf_sol.specs.SharedObject.{IsFileReading}
use Rattle.amf_sol.proofs.FileVerdicts.{files_judged_once}
use Rattle.amf_listings.proofs.FileLawRows.{file_laws}
use Rattle.amf_vectors.specs.Made.{made}
use Rattle.amf3_spelling.specs.Tables.{no_tables}
use Rattle.amf3_spelling.specs.Lacks3.{IsLack3}
use Rattle.amf3_spelling.specs.Values3.{IsValue3}
use Rattle.amf3_spelling.specs.Spells3.{IsSpelling3}
use Rattle.amf3_layout_laws.specs.Layout3State.{no_state}
use Rattle.amf3_layout_laws.specs.Layout3.{ValueRead, value_layout}
use Rattle.amf3_spelling.proofs.Decides3.{canonical_is_alone, same_bytes_isomorphic}
use Rattle.amf3_spelling.proofs.FirstLack3.{nothing_lacks}
use Rattle.amf3_layout_laws.proofs.Layout3Parts.{Found}
use Rattle.amf3_layout_laws.proofs.Layout3Complete.{spelled_read}
use Rattle.amf3_layout_laws.proofs.Values3Layout.{values3_is_layout}
use Rattle.amf_graph.specs.Building.{no_arena}
use Rattle.amf0_spelling.specs.KeptTables0.{no_kept_tables0}
use Rattle.amf0_layout_laws.specs.Layout0.{ValueRead0, value0_layout}
use Rattle.amf0_layout_laws.specs.Layout0State.{state0_of}
use Rattle.amf0_spelling.specs.Values0.{IsValue0}
use Rattle.amf0_spelling.specs.Tables0.{no_tables0}
use Rattle.amf0_layout_laws.proofs.Layout0Complete.{Found0, spelled_read0}
use Rattle.amf0_layout_laws.proofs.Layout0Format.{values0_is_layout}
use Rattle.amf_commands.specs.declared.command.Command.{Command}
use Rattle.amf_commands.specs.declared.command.Command.TheVariants.{Canon, Check, Show, Json, Same, Gen, Version}
use Rattle.amf3_read.specs.Pairs.{Pair}
use Rattle.amf3_read.proofs.PairLayouts.{pair_layout, pairs_are_layouts}
use Rattle.amf_commands.specs.declared.format.Format.{Format}
use Rattle.amf_commands.specs.declared.format.Format.TheVariants.{Amf3, Amf0, Packet, Sol}
use Rattle.amf_commands.specs.Content.{Content, value, packet, file, HasNodes, IsListed}
use Rattle.amf_commands.specs.Formats.{IsSpelling, Spelled, IsWritten, IsUnwritten}
use Rattle.amf_commands.specs.Input.{most, Input, nothing, one, two, input_of, IsAcceptedAs, IsRefusedAs}
use Rattle.amf_commands.specs.Run.{IsInputOf, ArePairIn, Says, Makes, Decides, Lacks, LacksEver, MayLack, IsOutputOf}
use Rattle.amf_commands.specs.Lines.{measure_line}
use Rattle.amf_commands.proofs.Told.{told_content, meant_content}
use Rattle.amf_commands.proofs.Formats.{SameContent, decides_alike, fits_alike, lacks_too, not_both_alike, same_bytes, written_again}

abbrev pub layouts : ℕ → Layout ValueRead
layouts n = value_layout n no_state

abbrev pub layouts0 : ℕ → Layout ValueRead0
layouts0 n = value0_layout n false (state0_of no_arena no_kept_tables0)

-- an input has one verdict
once_as : (i : Input) (input : List ℕ) → IsAcceptedAs i input → (reason : Reason) (at : ℕ) → IsRefusedAs i input reason at → ⊥
once_as nothing input = λ a reason at q. absurd a.accepted
once_as (one Amf3) input = (judged_once layouts IsValue3 values3_is_layout most input).not_both
once_as (one Amf0) input = (judged_once layouts0 IsValue0 values0_is_layout most input).not_both
once_as (one Packet) input = (packet_verdicts.judged_once most input).not_both
once_as (one Sol) input = let j = files_judged_once 0 most input in j.not_both
once_as two input = (judged_once pair_layout (Pair IsValue3) pairs_are_layouts most input).not_both

pub once : (c : Command) (input : List ℕ) → IsAcceptedAs (input_of c) input → (reason : Reason) (at : ℕ) → IsRefusedAs (input_of c) input reason at → ⊥
once c input = once_as (input_of c) input

-- an input within the most that is read to its end is not refused
module _ {X : Type 0} (t : ℕ → Layout X) (P : List Field → Type 0) (g : IsLayout t P) (input : List ℕ) (within : length input ≤ most) (done : (m : ℕ) → length input < m → (x : X) × (run (t m) 0 input ≡ Done x (length input) [])) where
  not_faulty : (reason : Reason) (at : ℕ) → IsFault P 0 input reason at → ⊥
  not_faulty reason at f =
      let s = fault_run t P g 0 at reason input f in
      let d = done (s.0 + length input + 1) (omega arith) in
      let clash : Done d.0 (length input) [] ≡ Bad reason at = sym d.1 ∙ s.1 (s.0 + length input + 1) (omega arith) in
      absurd cc

  not_cut_off : (at : ℕ) → IsCutOff P 0 input at → ⊥
  not_cut_off at f =
      let s = short_run t P g 0 at input f in
      let d = done (s.0 + length input + 1) (omega arith) in
      let clash : Done d.0 (length input) [] ≡ Short at = sym d.1 ∙ s.1 (s.0 + length input + 1) (omega arith) in
      absurd cc

  none_behind : (rest : List ℕ) (at : ℕ) → IsAccepted P 0 most input at rest → rest ≡ []
  none_behind rest at a =
      let m = length (flat a.fields) + length input + 1 in
      let c = accepts t P g 0 a.fields m rest a.accepted (omega arith) in
      let d = done m (omega arith) in
      let same : Done d.0 (length input) [] ≡ Done c.0 (0 + length (flat a.fields)) rest = sym d.1 ∙ ap (run (t m) 0) a.parts ∙ c.1 in
      cc

  whole_not_refused : (reason : Reason) (at : ℕ) → IsInputRefused P most input reason at → ⊥
  whole_not_refused reason at (refused (faulty f)) = not_faulty reason at (subst (λ w. IsFault P 0 w reason at) (take_all (most - 0) input (omega arith)) f)
  whole_not_refused reason at (refused (truncated why c)) = not_cut_off at c.cut_off
  whole_not_refused reason at (refused (too_large why c)) = let longer = c.longer in absurd (omega arith)
  whole_not_refused reason at (trailing why rest some a) = let none : length rest ≡ 0 = ap length (none_behind rest at a) in absurd (omega arith)

-- the fields of a graph are read
found : (g : Graph) (fs : List Field) (m : ℕ) (s : IsSpelling3 free g fs) → length (flat fs) < m → Found g (value_layout m) no_state fs s.0
found g fs m s lt = spelled_read g m g.root no_tables fs s.0 no_state (record { words = refl; marks = refl }) lt s.1

-- what spells a graph is read to its end
spelled_done : (g : Graph) (input : List ℕ) → IsInputOf Amf3 (value g) input → (m : ℕ) → length input < m → (x : ValueRead) × (run (layouts m) 0 input ≡ Done x (length input) [])
spelled_done g input i m lt =
    let n : length input ≡ length (flat i.fields) = ap length i.parts in
    let f = found g i.fields m i.spelled (omega arith) in
    let e : input ≡ flat i.fields ++ [] = i.parts ∙ sym (append-nil (flat i.fields)) in
    let place : 0 + length (flat i.fields) ≡ length input = omega (arith, n) in
    (f.result, ap (run (layouts m) 0) e ∙ runs_run (layouts m) i.fields f.result 0 [] f.runs ∙ ap (λ k. Done f.result k []) place)

spelled_done0 : (g : Graph) (input : List ℕ) → IsInputOf Amf0 (value g) input → (m : ℕ) → length input < m → (x : ValueRead0) × (run (layouts0 m) 0 input ≡ Done x (length input) [])
spelled_done0 g input i m lt =
    let n : length input ≡ length (flat i.fields) = ap length i.parts in
    let s = i.spelled in
    let f : Found0 g (layouts0 m) i.fields s.0 = spelled_read0 g m g.root no_tables0 i.fields s.0 (state0_of no_arena no_kept_tables0) (record { amf3 = record { words = refl; marks = refl }; size = refl }) (omega arith) s.1 in
    let e : input ≡ flat i.fields ++ [] = i.parts ∙ sym (append-nil (flat i.fields)) in
    let place : 0 + length (flat i.fields) ≡ length input = omega (arith, n) in
    (f.result, ap (run (layouts0 m) 0) e ∙ runs_run (layouts0 m) i.fields f.result 0 [] f.runs ∙ ap (λ k. Done f.result k []) place)

-- and so is what spells two
pair_done : (g h : Graph) (input : List ℕ) → ArePairIn g h input → (m : ℕ) → length input < m → (x : ValueRead) × (run (pair_layout m) 0 input ≡ Done x (length input) [])
pair_done g h input p m lt =
    let n : length input ≡ length (flat p.front) + length (flat p.back) = ap length p.parts ∙ length-append (flat p.front) (flat p.back) in
    let a = found g p.front m p.first (omega arith) in
    let b = found h p.back m p.second (omega arith) in
    let fs = p.front ++ p.back in
    let all : input ≡ flat fs = p.parts ∙ sym (flat-append p.front p.back) in
    let e : input ≡ flat fs ++ [] = all ∙ sym (append-nil (flat fs)) in
    let place : 0 + length (flat fs) ≡ length input = omega (arith, ap length all) in
    let r : Runs (pair_layout m) fs b.result = runs_bind (layouts m) (λ x. layouts m) p.front p.back a.result (give b.result) a.runs b.runs in
    (b.result, ap (run (pair_layout m) 0) e ∙ runs_run (pair_layout m) fs b.result 0 [] r ∙ ap (λ k. Done b.result k []) place)

-- what spells a content is not refused
pub never_refused : (f : Format) (c : Content) (input : List ℕ) (reason : Reason) (at : ℕ) → IsInputOf f c input → IsRefusedAs (one f) input reason at → ⊥
never_refused Amf3 (value g) input reason at i q = whole_not_refused layouts IsValue3 values3_is_layout input i.within (spelled_done g input i) reason at q
never_refused Amf0 (value g) input reason at i q = whole_not_refused layouts0 IsValue0 values0_is_layout input i.within (spelled_done0 g input i) reason at q
never_refused Packet (packet p) input reason at i q =
    let place : length input ≡ 0 + length (flat i.fields) = omega (arith, ap length i.parts) in
    let accepted : IsAccepted IsPacketReading 0 most input (length input) [] = record { fields = i.fields; accepted = (p, i.spelled); parts = i.parts ∙ sym (append-nil (flat i.fields)); place = place; within = i.within } in
    (packet_verdicts.judged_once most input).not_both accepted reason at q
never_refused Sol (file o) input reason at i q =
    let place : 0 + length input ≡ 0 + length (flat i.fields) = omega (arith, ap length i.parts) in
    let accepted : IsAccepted IsFileReading 0 most input (0 + length input) [] = record { fields = i.fields; accepted = (o, i.spelled); parts = i.parts ∙ sym (append-nil (flat i.fields)); place = place; within = let w = i.within in omega arith } in
    let j = files_judged_once 0 most input in
    j.not_both (accepted, i.its_length) reason at q
never_refused _ _ input reason at i q = absurd i.spelled

pair_never_refused : (g h : Graph) (input : List ℕ) (reason : Reason) (at : ℕ) → ArePairIn g h input → IsInputRefused (Pair IsValue3) most input reason at → ⊥
pair_never_refused g h input reason at p q = whole_not_refused pair_layout (Pair IsValue3) pairs_are_layouts input p.within (pair_done g h input p) reason at q

-- where nothing is accepted nothing is refused
none_refused : (input : List ℕ) (reason : Reason) (at : ℕ) → IsInputRefused (λ fields. ⊥) most input reason at → ⊥
none_refused input reason at (refused (faulty f)) = f.follows.accepted
none_refused input reason at (refused (truncated why t)) = t.cut_off.follows.accepted
none_refused input reason at (refused (too_large why t)) = t.cut_off.follows.accepted
none_refused input reason at (trailing why rest some a) = a.accepted

-- what an output is made of is not refused
pub made_not_refused : (c : Command) (input bytes : List ℕ) (reason : Reason) (at : ℕ) → Makes c input bytes → IsRefusedAs (input_of c) input reason at → ⊥
made_not_refused (Canon from to) input bytes reason at (c, i, s) q = never_refused from c input reason at i q
made_not_refused (Check from) input bytes reason at (c, i, s) q = never_refused from c input reason at i q
made_not_refused (Show from) input bytes reason at (c, i, s) q = never_refused from c input reason at i q
made_not_refused (Json from layout) input bytes reason at (c, i, s) q = never_refused from c input reason at i q
made_not_refused Same input bytes reason at (g, h, p, s) q = pair_never_refused g h input reason at p q
made_not_refused (Gen seed size) input bytes reason at m q = none_refused input reason at q
made_not_refused Version input bytes reason at m q = none_refused input reason at q

-- and so is what lacks an output
pub lacking_not_refused : (c : Command) (input : List ℕ) (number : ℕ) (l : Lack) (reason : Reason) (at : ℕ) → Lacks c input number l → IsRefusedAs (input_of c) input reason at → ⊥
lacking_not_refused (Canon from to) input number l reason at (c, i, k) q = never_refused from c input reason at i q
lacking_not_refused (Check from) input number l reason at k q = k
lacking_not_refused (Show from) input number l reason at k q = k
lacking_not_refused (Json from layout) input number l reason at k q = k
lacking_not_refused Same input number l reason at k q = k
lacking_not_refused (Gen seed size) input number l reason at k q = k
lacking_not_refused Version input number l reason at k q = k

pub spells_free : (f : Format) (c : Content) (input : List ℕ) → IsInputOf f c input → Spelled f free c input
spells_free f c input i = (i.fields, i.spelled, i.parts)

pub same_input : (f : Format) (c d : Content) (input : List ℕ) → IsInputOf f c input → IsInputOf f d input → SameContent c d
same_input f c d input i j = same_bytes f c d input (spells_free f c input i) (spells_free f d input j)

-- an input has an output or a lack, and not both
pub made_not_lacking : (c : Command) (input bytes : List ℕ) (number : ℕ) (l : Lack) → Makes c input bytes → Lacks c input number l → ⊥
made_not_lacking (Canon from to) input bytes number l (c, i, (fit, d, s)) (k, j, (other, e, lacks)) = not_both_alike to c k fit other (same_input from c k input i j) d e bytes number l s lacks
made_not_lacking (Check from) input bytes number l m k = k
made_not_lacking (Show from) input bytes number l m k = k
made_not_lacking (Json from layout) input bytes number l m k = k
made_not_lacking Same input bytes number l m k = k
made_not_lacking (Gen seed size) input bytes number l m k = k
made_not_lacking Version input bytes number l m k = k

-- and whatever it spells has this lack
pub lacks_ever : (c : Command) (input : List ℕ) (number : ℕ) (l : Lack) → Lacks c input number l → LacksEver c input number l
lacks_ever (Canon from to) input number l (c, i, (fit, d, k)) = λ h other j e. lacks_too to c h fit other (same_input from c h input i j) d e number l k
lacks_ever (Check from) input number l k = k
lacks_ever (Show from) input number l k = k
lacks_ever (Json from layout) input number l k = k
lacks_ever Same input number l k = k
lacks_ever (Gen seed size) input number l k = k
lacks_ever Version input number l k = k

-- a command whose output may lack
pub may_lack : (from to : Format) (c : Content) (fs : List Field) (number : ℕ) (l : Lack) → IsSpelling from free c fs → IsUnwritten to c number l → MayLack (Canon from to)
may_lack Amf3 Amf3 (value g) fs number l p (value x, d, k) = (nothing_lacks free g fs p).1 l.node l.kind (subst (λ (w : Graph). IsLack3 w l.node l.kind) d k.1)
may_lack Amf3 Amf3 (value g) fs number l p (packet x, d, k) = absurd d
may_lack Amf3 Amf3 (value g) fs number l p (file x, d, k) = absurd d
may_lack Amf3 Amf3 (packet q) fs number l p u = absurd p
may_lack Amf3 Amf3 (file q) fs number l p u = absurd p
may_lack _ _ c fs number l p u = tt

-- output that is read again gives itself
pub made_again : (c : Command) (input bytes : List ℕ) → Makes c input bytes → IsOutputOf c input → bytes ≡ input
made_again (Canon from to) input bytes (h, i, w) (same, c, s) =
    written_again from c h input bytes (subst (λ (f : Format). IsWritten f c input) (sym same) s) (spells_free from h input i) (subst (λ (f : Format). IsWritten f h bytes) (sym same) w)
made_again (Check from) input bytes m o = absurd o
made_again (Show from) input bytes m o = absurd o
made_again (Json from layout) input bytes m o = absurd o
made_again Same input bytes m o = absurd o
made_again (Gen seed size) input bytes m o = absurd o
made_again Version input bytes m o = absurd o

-- Two graphs that an input spells have the same fronts and backs as two others.

record AreCutAlike (g h f e : Graph) : Type 0 where
  left : Isomorphic g f
  right : Isomorphic h e

cut_alike : (g h f e : Graph) (input : List ℕ) → ArePairIn g h input → ArePairIn f e input → AreCutAlike g h f e
cut_alike g h f e input p q =
    let m = length (flat p.front) + length (flat q.front) + 1 in
    let a = found g p.front m p.first (omega arith) in
    let b = found f q.front m q.first (omega arith) in
    let x = ap (run (layouts m) 0) p.parts ∙ runs_run (layouts m) p.front a.result 0 (flat p.back) a.runs in
    let y = ap (run (layouts m) 0) q.parts ∙ runs_run (layouts m) q.front b.result 0 (flat q.back) b.runs in
    let same : Done a.result (0 + length (flat p.front)) (flat p.back) ≡ Done b.result (0 + length (flat q.front)) (flat q.back) = sym x ∙ y in
    let back : flat p.back ≡ flat q.back = cc in
    let long : 0 + length (flat p.front) ≡ 0 + length (flat q.front) = cc in
    let n : length (flat q.front) ≡ length (flat p.front) = omega arith in
    let front : flat p.front ≡ flat q.front = sym (take_at (flat p.front) (flat p.back) (length (flat p.front)) refl) ∙ ap (take (length (flat p.front))) (sym p.parts ∙ q.parts) ∙ take_at (flat q.front) (flat q.back) (length (flat p.front)) n in
    record {
      left = same_bytes_isomorphic g f (flat p.front) (p.front, p.first, refl) (q.front, q.first, front);
      right = same_bytes_isomorphic h e (flat p.back) (p.back, p.second, refl) (q.back, q.second, back);
    }

said : (P Q : Type 0) (line : List ℕ) → (P → Q) → (Q → P) → Says P line → Says Q line
said P Q line go back (inl (p, e)) = inl (go p, e)
said P Q line go back (inr (n, e)) = inr (λ q. n (back q), e)

-- the same contents have as many nodes
counted_content : (c d : Content) (n : ℕ) → SameContent c d → HasNodes c n → HasNodes d n
counted_content (value g) (value h) n i k = counted_alike g h n i k
counted_content (packet p) (packet q) n i k = packet_laws.same_number p q n i k
counted_content (file o) (file q) n i k = counted_alike o.holder q.holder n i.holder k
counted_content _ _ n i k = absurd i

-- and one listing
listed_content : (c d : Content) (b : List ℕ) → SameContent c d → IsListed c b → IsListed d b
listed_content (value g) (value h) b i k = listed_alike g h b i k
listed_content (packet p) (packet q) b i k = packet_laws.same_listing p q b i k
listed_content (file o) (file q) b i k = file_laws.same_listing o q b i k
listed_content _ _ b i k = absurd i

pub decides : (c : Command) (input bytes : List ℕ) → Makes c input bytes → Decides c input bytes
decides (Canon from to) input bytes (r, j, (fit, e, s)) = λ g other h i d. decides_alike to r g fit other (same_input from r g input j i) e d bytes s h
decides (Check from) input bytes (r, j, (nodes, has, is)) = λ c i. (nodes, counted_content r c nodes (same_input from r c input j i) has, is)
decides (Show from) input bytes (r, j, s) = λ c i. listed_content r c bytes (same_input from r c input j i) s
decides (Json from layout) input bytes (r, j, (ready, fit, e, s, m)) = λ c other i d.
    let same = same_input from r c input j i in
    (told_content layout from r c fit other bytes same e d s, meant_content from fit other bytes (fits_alike from r c fit other same e d) m)
decides (Gen seed size) input bytes (spelled, s, is) = λ other o. is ∙ ap (measure_line (length (made seed size).nodes)) (canonical_is_alone (made seed size) spelled other s o)
decides Version input bytes is = is
decides Same input bytes (g, h, p, s) = λ f e q.
    let a = cut_alike g h f e input p q in
    said (Isomorphic g h) (Isomorphic f e) bytes
    (λ i. isomorphic_trans f g e (isomorphic_sym g f a.left) (isomorphic_trans g h e i a.right))
    (λ i. isomorphic_trans g f h a.left (isomorphic_trans f e h i (isomorphic_sym h e a.right))) s
