-- The texts of a graph, one after another.
use Rattle.std.specs.Prelude.{◌≡◌, ◌≢◌, ℕ, zero, suc, ◌+◌, ◌<◌, List, [], ◌∷◌, ◌++◌, length, take, map, slice_get, Some}
use Rattle.std.proofs.Common.{refl, sym, ap, ◌∙◌, arith, add-one, get_or}
use Rattle.std.proofs.Math.Seq.{take-suc}
use Rattle.std.proofs.lemmas.List.{map-append, length-map}
use Rattle.amf_graph.specs.declared.value.TextId.{TextId}
use Rattle.amf_graph.specs.Arena.{Arena, text_at}
use Rattle.amf_tables.specs.ShownTraits.{AreTextIds, texts_at}
use Rattle.amf_tables.specs.TableParts.{text_number}
use Rattle.amf_tables.specs.TextCodes.{text_of}

-- each of them is a text's
pub id_within : (a : Arena) (ids : List TextId) (k : ℕ) (d : TextId) → AreTextIds a ids → k < length ids → (get_or ids k d).0 < length a.texts
id_within a [] k d all within = absurd (omega arith)
id_within a (i ∷ ids) zero d all within = all.0
id_within a (i ∷ ids) (suc k) d all within = id_within a ids k d all.1 (omega arith)

-- one text more
pub texts_more : (a : Arena) (ids : List TextId) (k : ℕ) (d : TextId) → k < length ids → texts_at a (take (k + 1) ids) ≡ texts_at a (take k ids) ++ text_at a (get_or ids k d).0 ∷ []
texts_more a ids k d within = rw (add-one, take-suc ids k d within, map-append, map-append) refl

-- the text of the id at a place
pub text_here : (a : Arena) (ids : List TextId) (k : ℕ) (d : TextId) → k < length ids → slice_get (texts_at a ids) k ≡ Some (text_at a (get_or ids k d).0)
text_here a [] k d within = absurd (omega arith)
text_here a (i ∷ ids) zero d within = refl
text_here a (i ∷ ids) (suc k) d within = text_here a ids k d (omega arith)

-- where so many are alike, all of them are where the remaining ones are
pub record Remains (a : Arena) (texts : List (List ℕ)) (ids : List TextId) (more : List (List ℕ)) (more_ids : List TextId) : Type 0 where
  pub long : length more ≡ length more_ids
  pub within : AreTextIds a more_ids
  pub onward : texts ≡ texts_at a ids → more ≡ texts_at a more_ids
  pub back : more ≡ texts_at a more_ids → texts ≡ texts_at a ids

pub remains_all : (a : Arena) (texts : List (List ℕ)) (ids : List TextId) → length texts ≡ length ids → AreTextIds a ids → Remains a texts ids texts ids
remains_all a texts ids long within = record { long = long; within = within; onward = λ e. e; back = λ e. e }

pub remains_fewer : (a : Arena) (texts : List (List ℕ)) (ids : List TextId) (x : List ℕ) (i : TextId) (more : List (List ℕ)) (more_ids : List TextId) → Remains a texts ids (x ∷ more) (i ∷ more_ids) → x ≡ text_at a i.0 → Remains a texts ids more more_ids
remains_fewer a texts ids x i more more_ids r same = record {
  long = let h = r.long in omega arith;
  within = r.within.1;
  onward = λ e. let h = r.onward e in cc;
  back = λ e. r.back (cc);
}

pub remains_other : (a : Arena) (texts : List (List ℕ)) (ids : List TextId) (x : List ℕ) (i : TextId) (more : List (List ℕ)) (more_ids : List TextId) → Remains a texts ids (x ∷ more) (i ∷ more_ids) → x ≢ text_at a i.0 → texts ≢ texts_at a ids
remains_other a texts ids x i more more_ids r other e = let h = r.onward e in other (cc)

pub remains_none : (a : Arena) (texts : List (List ℕ)) (ids : List TextId) → Remains a texts ids [] [] → texts ≡ texts_at a ids
remains_none a texts ids r = r.back refl

-- the same, of the texts of codes
pub record RemainNamed (a : Arena) (texts : List (List ℕ)) (codes : List ℕ) (ids : List TextId) (more : List ℕ) (more_ids : List TextId) : Type 0 where
  pub long : length more ≡ length more_ids
  pub within : AreTextIds a more_ids
  pub onward : map (text_of texts) codes ≡ texts_at a ids → map (text_of texts) more ≡ texts_at a more_ids
  pub back : map (text_of texts) more ≡ texts_at a more_ids → map (text_of texts) codes ≡ texts_at a ids

pub named_all : (a : Arena) (texts : List (List ℕ)) (codes : List ℕ) (ids : List TextId) → length codes ≡ length ids → AreTextIds a ids → RemainNamed a texts codes ids codes ids
named_all a texts codes ids long within = record { long = long; within = within; onward = λ e. e; back = λ e. e }

pub named_fewer : (a : Arena) (texts : List (List ℕ)) (codes : List ℕ) (ids : List TextId) (k : ℕ) (i : TextId) (more : List ℕ) (more_ids : List TextId) → RemainNamed a texts codes ids (k ∷ more) (i ∷ more_ids) → text_of texts k ≡ text_at a i.0 → RemainNamed a texts codes ids more more_ids
named_fewer a texts codes ids k i more more_ids r same = record {
  long = let h = r.long in omega arith;
  within = r.within.1;
  onward = λ e. let h = r.onward e in cc;
  back = λ e. r.back (cc);
}

pub named_other : (a : Arena) (texts : List (List ℕ)) (codes : List ℕ) (ids : List TextId) (k : ℕ) (i : TextId) (more : List ℕ) (more_ids : List TextId) → RemainNamed a texts codes ids (k ∷ more) (i ∷ more_ids) → text_of texts k ≢ text_at a i.0 → map (text_of texts) codes ≢ texts_at a ids
named_other a texts codes ids k i more more_ids r other e = let h = r.onward e in other (cc)

pub named_none : (a : Arena) (texts : List (List ℕ)) (codes : List ℕ) (ids : List TextId) → RemainNamed a texts codes ids [] [] → map (text_of texts) codes ≡ texts_at a ids
named_none a texts codes ids r = r.back refl

pub longer_codes : (a : Arena) (texts : List (List ℕ)) (codes : List ℕ) (ids : List TextId) → length codes ≢ length ids → map (text_of texts) codes ≢ texts_at a ids
longer_codes a texts codes ids other e = other (sym (length-map codes (text_of texts)) ∙ ap length e ∙ length-map (map text_number ids) (text_at a) ∙ length-map ids text_number)

pub ruleset copied = (id_within, texts_more)

pub ruleset compared = (remains_all, remains_fewer, remains_other, remains_none)

pub ruleset named = (named_all, named_fewer, named_other, named_none, longer_codes)
