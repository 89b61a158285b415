-- Each goal can be met: its shortest end. And so what is asked for can come.
use Rattle.std.proofs.Common.{◌≡◌, ℕ, zero, suc, Bool, true, ◌||◌, if◌then◌else◌, List, [], ◌∷◌, ◌++◌, Option, Some, refl, ap, ◌∙◌}
use Rattle.std.specs.Prelude.{option_and_then, is_some, codes, bytes_eq}
use Rattle.std.proofs.lemmas.Slice.Eq.{bytes_eq-Decides}
use Rattle.json.specs.Token.{Token, begin_object, end_object, begin_array, end_array, key, string, number, boolean, null}
use Rattle.json.specs.Print.{ArePrintable}
use Rattle.json.specs.Word.{after_number}
use Rattle.amf_wire.specs.WholeNumbers.{whole_of}
use Rattle.amf_text.specs.Tags.{tag_of}
use Rattle.amf_text.specs.Scalars.{Reads}
use Rattle.amf_text.specs.Told.{stands_in}
use Rattle.amf_text.specs.Meant.{without}
use Rattle.amf_text.specs.Accepted.{file_version, packet_version}
use Rattle.amf_text.specs.Asks as ask
use Rattle.amf_text.specs.Asks.{Goal, step, vector_tag, left_after, asked, if_it}
use Rattle.amf_text.specs.AskLaws.{Begins, GoalLawsHold}
use Rattle.amf_text.proofs.Goals.{Done, after_both, joined, first_step, first_of}
use Rattle.amf_text.proofs.Asked.{key_then, test_token}
use Rattle.amf_text.proofs.SoundAll.{whole}

printable_both : (a b : List Token) → ArePrintable a → ArePrintable b → ArePrintable (a ++ b)
unfolding ArePrintable
printable_both [] b p q = q
printable_both (t ∷ a) b p q = (p.0, printable_both a b p.1 q)

same_word : (word : List ℕ) → bytes_eq word word ≡ true
same_word word = (bytes_eq-Decides word word).1 refl

module _ (reads : Reads) (zero_is_read : reads (codes "0") ≡ Some 0) where
  -- tokens that meet the goals
  abbrev Finish : List Goal → Type 0
  Finish gs = (ts : List Token) × ArePrintable ts × Done reads gs ts

  stands : (x : List ℕ) (xs : List (List ℕ)) → stands_in (x ∷ xs) x ≡ true
  stands x xs = ap (λ b. b || stands_in xs x) (same_word x)

  first_out : (x : List ℕ) (xs : List (List ℕ)) → without x (x ∷ xs) ≡ xs
  first_out x xs = ap (λ b. if b then xs else x ∷ without x xs) (same_word x)

  -- a value for each name that is left
  left_end : (names : List (List ℕ)) → Finish (ask.left names ∷ [])
  unfolding step ArePrintable
  left_end [] = (end_object ∷ [], (tt, tt), refl)
  left_end (x ∷ xs) =
      let r = left_end xs in
      let s : step reads (ask.left (x ∷ xs)) (key x) ≡ Some (ask.value ∷ ask.left xs ∷ []) =
      ap (λ b. if_it b (ask.value ∷ ask.left (without x (x ∷ xs)) ∷ [])) (stands x xs) ∙ ap (λ ys. Some (ask.value ∷ ask.left ys ∷ [])) (first_out x xs) in
      (key x ∷ null ∷ r.0, (tt, (tt, r.1)), first_of reads (ask.left (x ∷ xs)) (key x) (ask.value ∷ ask.left xs ∷ []) [] (null ∷ r.0) s r.2)

  no_more : (part : List Goal) (more : ℕ → Goal) (left : ℕ) → ask.parts_step part more left end_array ≡ Some []
  no_more part more zero = refl
  no_more part more (suc left) = refl

  zero_number : (f : Option ℕ → Bool) (g : Goal) → step reads g (number (codes "0")) ≡ if_it (f (reads (codes "0"))) [] → f (Some 0) ≡ true → Finish (g ∷ [])
  unfolding ArePrintable after_number
  zero_number f g e h = (number (codes "0") ∷ [], (refl, tt), test_token reads g (number (codes "0")) (f (reads (codes "0"))) e (ap f zero_is_read ∙ h))

  finish : (g : Goal) → Finish (g ∷ [])
  unfolding step ArePrintable tag_of vector_tag
  finish ask.start = (begin_object ∷ key (codes "amf") ∷ string (codes "amf0") ∷ key (codes "root") ∷ null ∷ end_object ∷ [], (tt, (tt, (tt, (tt, (tt, (tt, tt)))))), refl)
  finish ask.form_key = (key (codes "amf") ∷ string (codes "amf0") ∷ key (codes "root") ∷ null ∷ end_object ∷ [], (tt, (tt, (tt, (tt, (tt, tt))))), refl)
  finish ask.form_name = (string (codes "amf0") ∷ key (codes "root") ∷ null ∷ end_object ∷ [], (tt, (tt, (tt, (tt, tt)))), refl)
  finish (ask.key_is k) = (key k ∷ [], (tt, tt), key_then reads k k [] [] (same_word k) refl)
  finish (ask.table_or k) = (key (codes "nodes") ∷ begin_object ∷ end_object ∷ key k ∷ [], (tt, (tt, (tt, (tt, tt)))), key_then reads k k [] [] (same_word k) refl)
  finish ask.close = (end_object ∷ [], (tt, tt), refl)
  finish ask.end_list = (end_array ∷ [], (tt, tt), refl)
  finish ask.rows = (begin_object ∷ end_object ∷ [], (tt, (tt, tt)), refl)
  finish (ask.row_keys seen) = (end_object ∷ [], (tt, tt), refl)
  finish ask.headers = (begin_array ∷ end_array ∷ [], (tt, (tt, tt)), refl)
  finish (ask.more_headers left) = (end_array ∷ [], (tt, tt), first_step reads (ask.more_headers left) end_array [] [] (no_more ask.header_goals ask.more_headers left) refl)
  finish ask.messages = (begin_array ∷ end_array ∷ [], (tt, (tt, tt)), refl)
  finish (ask.more_messages left) = (end_array ∷ [], (tt, tt), first_step reads (ask.more_messages left) end_array [] [] (no_more ask.message_goals ask.more_messages left) refl)
  finish ask.value = (null ∷ [], (tt, tt), refl)
  finish ask.node = (begin_array ∷ end_array ∷ [], (tt, (tt, tt)), refl)
  finish ask.object = (end_object ∷ [], (tt, tt), refl)
  finish ask.node_object = (end_object ∷ [], (tt, tt), refl)
  finish ask.plain = (end_object ∷ [], (tt, tt), refl)
  finish ask.list = (begin_array ∷ end_array ∷ [], (tt, (tt, tt)), refl)
  finish ask.items = (end_array ∷ [], (tt, tt), refl)
  finish ask.entries_list = (begin_array ∷ end_array ∷ [], (tt, (tt, tt)), refl)
  finish ask.entries = (end_array ∷ [], (tt, tt), refl)
  finish ask.members = (begin_object ∷ end_object ∷ [], (tt, (tt, tt)), refl)
  finish ask.keys = (end_object ∷ [], (tt, tt), refl)
  finish ask.pairs = (end_array ∷ [], (tt, tt), refl)
  finish ask.class_rest = (end_object ∷ [], (tt, tt), refl)
  finish ask.begun = (end_object ∷ [], (tt, tt), refl)
  finish ask.class_names = (begin_array ∷ end_array ∷ key (codes "$sealed") ∷ begin_object ∷ end_object ∷ end_object ∷ [], (tt, (tt, (tt, (tt, (tt, (tt, tt)))))), refl)
  finish (ask.more_names seen) =
      let r = left_end seen in (
        end_array ∷ key (codes "$sealed") ∷ begin_object ∷ (r.0 ++ end_object ∷ []),
        (tt, (tt, (tt, printable_both r.0 (end_object ∷ []) r.1 (tt, tt)))),
        joined reads (ask.left seen ∷ []) (ask.close ∷ []) r.0 (end_object ∷ []) r.2 refl,
      )
  finish ask.sealed = (begin_object ∷ end_object ∷ [], (tt, (tt, tt)), refl)
  finish (ask.rising last) = (end_object ∷ [], (tt, tt), refl)
  finish (ask.those names) = let r = left_end names in (begin_object ∷ r.0, (tt, r.1), r.2)
  finish (ask.left names) = left_end names
  finish (ask.flag_or_close k) = (end_object ∷ [], (tt, tt), refl)
  finish ask.vector_key = (key (codes "$ints") ∷ begin_array ∷ end_array ∷ end_object ∷ [], (tt, (tt, (tt, (tt, tt)))), refl)
  finish ask.text = (string [] ∷ [], (tt, tt), refl)
  finish ask.short_text = (string [] ∷ [], (tt, tt), refl)
  finish ask.text_hex = (string [] ∷ [], (tt, tt), refl)
  finish ask.short_hex = (string [] ∷ [], (tt, tt), refl)
  finish ask.hex = (string [] ∷ [], (tt, tt), refl)
  finish ask.pattern = (string (codes "NaN") ∷ [], (tt, tt), refl)
  finish ask.pattern_list = (begin_array ∷ end_array ∷ [], (tt, (tt, tt)), refl)
  finish ask.patterns = (end_array ∷ [], (tt, tt), refl)
  finish ask.int_list = (begin_array ∷ end_array ∷ [], (tt, (tt, tt)), refl)
  finish ask.ints = (end_array ∷ [], (tt, tt), refl)
  finish ask.uint_list = (begin_array ∷ end_array ∷ [], (tt, (tt, tt)), refl)
  finish ask.uints = (end_array ∷ [], (tt, tt), refl)
  finish ask.flag = (boolean true ∷ [], (tt, tt), refl)
  finish ask.truth = (boolean true ∷ [], (tt, tt), refl)
  finish ask.label = (string [] ∷ [], (tt, tt), refl)
  finish ask.form_word = (string (codes "amf3") ∷ [], (tt, tt), refl)
  finish ask.version_of_file = zero_number (λ o. is_some (option_and_then file_version (option_and_then whole_of o))) ask.version_of_file refl refl
  finish ask.version_of_packet = zero_number (λ o. is_some (option_and_then packet_version (option_and_then whole_of o))) ask.version_of_packet refl refl

  finish_all : (gs : List Goal) → Finish gs
  unfolding ArePrintable
  finish_all [] = ([], tt, refl)
  finish_all (g ∷ gs) =
      let a = finish g in
      let b = finish_all gs in
      (a.0 ++ b.0, printable_both a.0 b.0 a.1 b.1, joined reads (g ∷ []) gs a.0 b.0 a.2 b.2)

  begins : (ts : List Token) (gs : List Goal) → ArePrintable ts → asked reads ts ≡ Some gs → Begins reads ts
  begins ts gs p e =
      let f = finish_all gs in
      let w = whole reads (ts ++ f.0) (printable_both ts f.0 p f.1) (after_both reads ts f.0 (ask.start ∷ []) ∙ ap (option_and_then (λ hs. left_after reads hs f.0)) e ∙ f.2) in
      (f.0, w.0, w.1)

pub goal_laws : GoalLawsHold
goal_laws reads zero_is_read = record { whole = whole reads; begins = begins reads zero_is_read }
