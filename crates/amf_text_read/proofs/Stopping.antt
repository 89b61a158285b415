-- Where the tokens of a text stop, by what its lexemes say.
use Rattle.std.proofs.Common.{◌≡◌, ℕ, Bool, true, false, not, List, [], ◌∷◌, ◌++◌, length, get_or, map, refl, sym, ap, ◌∙◌, subst, arith}
use Rattle.std.proofs.lemmas.Bool.{false≢true}
use Rattle.json.specs.Token.{Token}
use Rattle.json.specs.Lex.{between, fresh, punctuate, tokens}
use Rattle.amf_text.specs.Scan.{Stop, ended, comma_last, inside, fault, scan}
use Rattle.amf_text_read.specs.Places.{is_cut_text, stop_place, token_places}
use Rattle.amf_text_read.specs.Scanned.{StopsSo, so_comma, so_inside, so_fault, is_ended, placed_lexemes}
use Rattle.amf_text_read.proofs.Scanned.{Scanned, scanned}
use Rattle.amf_text_read.proofs.Lexed.{all_lexemes, open_ends, places_rise}

pub text_scanned : (text : List ℕ) → Scanned (is_cut_text text) true false false 0 (length text) (placed_lexemes between 0 text) (scan text) (tokens text)
text_scanned text =
    subst (λ ls. Scanned (is_cut_text text) true false false 0 (length text) (placed_lexemes between 0 text) (scan text) (punctuate fresh ls)) (all_lexemes between 0 text)
    (scanned (is_cut_text text) true false false fresh 0 0 (length text) (placed_lexemes between 0 text) refl (places_rise between 0 (length text) text (omega arith)) (λ e. open_ends between 0 text e))

-- the place behind the last token

at_end : (xs : List (ℕ × Token)) (z : ℕ) → get_or (map (λ p. p.0) xs ++ z ∷ []) (length xs) 0 ≡ z
at_end [] z = refl
at_end (x ∷ xs) z = at_end xs z

pub stop_at : (text : List ℕ) (n at : ℕ) → n ≡ length (scan text).tokens → at ≡ get_or (token_places text) n 0 → at ≡ stop_place (length text) (scan text).stop
stop_at text n at e f = f ∙ ap (λ k. get_or (token_places text) k 0) e ∙ at_end (scan text).tokens (stop_place (length text) (scan text).stop)

-- which stop it is

pub by_end : (s : Stop) → false ≡ not (is_ended s) → ended ≡ s
by_end ended e = refl
by_end (comma_last at) e = absurd (false≢true e)
by_end (inside at) e = absurd (false≢true e)
by_end (fault at) e = absurd (false≢true e)

pub by_comma : (cut can : Bool) (last end : ℕ) (s : Stop) → StopsSo cut last can end s → is_ended s ≡ false → stop_place end s ≡ end → comma_last last ≡ s
by_comma cut can last end ended k e p = absurd (false≢true (sym e))
by_comma cut can last end (comma_last at) (so_comma _ same) e p = ap comma_last (sym same)
by_comma cut can last end (inside at) (so_inside _ c same d less) e p = absurd (omega (arith, p, less))
by_comma cut can last end (fault at) (so_fault _ f less) e p = absurd (omega (arith, p, less))

pub by_inside : (cut can : Bool) (last end at : ℕ) (s : Stop) → StopsSo cut last can end s → is_ended s ≡ false → at ≡ stop_place end s → (at ≡ end → ⊥)
    → cut ≡ true → at ≡ last → can ≡ true → inside at ≡ s
by_inside cut can last end at ended k e p ne c l d = absurd (false≢true (sym e))
by_inside cut can last end at (comma_last m) (so_comma _ same) e p ne c l d = absurd (ne p)
by_inside cut can last end at (inside m) (so_inside _ cut_off same d less) e p ne c l b = ap inside p
by_inside cut can last end at (fault m) (so_fault _ f less) e p ne c l d = absurd (false≢true (sym (f c (sym p ∙ l)) ∙ d))

pub by_fault : (cut can : Bool) (last end at : ℕ) (s : Stop) → StopsSo cut last can end s → is_ended s ≡ false → at ≡ stop_place end s → (at ≡ end → ⊥)
    → (cut ≡ true → at ≡ last → can ≡ true → ⊥) → fault at ≡ s
by_fault cut can last end at ended k e p ne n = absurd (false≢true (sym e))
by_fault cut can last end at (comma_last m) (so_comma _ same) e p ne n = absurd (ne p)
by_fault cut can last end at (inside m) (so_inside _ c same d less) e p ne n = absurd (n c (p ∙ same) d)
by_fault cut can last end at (fault m) (so_fault _ f less) e p ne n = ap fault p
