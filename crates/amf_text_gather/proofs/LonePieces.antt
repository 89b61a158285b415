-- Frames that come to nothing at a bracket.
use Rattle.std.proofs.Common.{◌≡◌, ℕ, ℤ, true, false, Option, refl}
use Rattle.std.proofs.lemmas.Bool.{false≢true}
use Rattle.std.specs.declared.vec.Vec.{Vec}
use Rattle.std.specs.declared.alloc.Global.{Global}
use Rattle.amf_text_trees.specs.Sheets.{Sheet}
use Rattle.amf_text_trees.specs.Pieces as piece
use Rattle.amf_text_trees.specs.Frames.{piece_of}
use Rattle.amf_text_pages.specs.declared.entry.Entry.{Entry}
use Rattle.amf_text_pages.specs.declared.page.Header.{Header}
use Rattle.amf_text_pages.specs.declared.page.Message.{Message}
use Rattle.amf_text_gather.specs.declared.frame.Frame.{Frame}
use Rattle.amf_text_gather.specs.declared.frame.Frame.TheVariants as code
use Rattle.amf_text_gather.specs.Frames.{frame_of, is_lone}

abbrev pub Not : Type 0 → Type 0
Not X = X → ⊥

pub lone_rest : (f : Frame) (s : Sheet)
    → ((x : Vec Entry Global) → Not (f ≡ code.List x))
    → ((x : Vec (Vec ℕ Global × Entry) Global) (k : Option (Vec ℕ Global)) → Not (f ≡ code.Members x k))
    → ((x : Entry) → Not (f ≡ code.Whole x))
    → ((x : Vec ℕ Global) → Not (f ≡ code.Quoted x))
    → ((x : Vec ℕ Global) → Not (f ≡ code.Patterns x))
    → ((x : Vec ℤ Global) → Not (f ≡ code.Ints x))
    → ((x : Vec ℕ Global) → Not (f ≡ code.Uints x))
    → ((x : Vec (Vec ℕ Global) Global) → Not (f ≡ code.Words x))
    → ((x : Vec Header Global) → Not (f ≡ code.Headers x))
    → ((x : Vec Message Global) → Not (f ≡ code.Messages x))
    → is_lone (frame_of f) ≡ true → piece.flag false ≡ piece_of s (frame_of f)
lone_rest (code.List y0) s h1 h2 h3 h4 h5 h6 h7 h8 h9 h10 l = absurd (h1 y0 refl)
lone_rest (code.Members y0 y1) s h1 h2 h3 h4 h5 h6 h7 h8 h9 h10 l = absurd (h2 y0 y1 refl)
lone_rest (code.Whole y0) s h1 h2 h3 h4 h5 h6 h7 h8 h9 h10 l = absurd (h3 y0 refl)
lone_rest (code.Quoted y0) s h1 h2 h3 h4 h5 h6 h7 h8 h9 h10 l = absurd (h4 y0 refl)
lone_rest (code.Patterns y0) s h1 h2 h3 h4 h5 h6 h7 h8 h9 h10 l = absurd (h5 y0 refl)
lone_rest (code.Ints y0) s h1 h2 h3 h4 h5 h6 h7 h8 h9 h10 l = absurd (h6 y0 refl)
lone_rest (code.Uints y0) s h1 h2 h3 h4 h5 h6 h7 h8 h9 h10 l = absurd (h7 y0 refl)
lone_rest (code.Words y0) s h1 h2 h3 h4 h5 h6 h7 h8 h9 h10 l = absurd (h8 y0 refl)
lone_rest (code.Headers y0) s h1 h2 h3 h4 h5 h6 h7 h8 h9 h10 l = absurd (h9 y0 refl)
lone_rest (code.Messages y0) s h1 h2 h3 h4 h5 h6 h7 h8 h9 h10 l = absurd (h10 y0 refl)
lone_rest (code.Items y0 y1) s h1 h2 h3 h4 h5 h6 h7 h8 h9 h10 l = absurd (false≢true l)
lone_rest (code.Plain y0 y1 y2) s h1 h2 h3 h4 h5 h6 h7 h8 h9 h10 l = absurd (false≢true l)
lone_rest (code.Done y0 y1) s h1 h2 h3 h4 h5 h6 h7 h8 h9 h10 l = absurd (false≢true l)
lone_rest (code.Class y0 y1) s h1 h2 h3 h4 h5 h6 h7 h8 h9 h10 l = absurd (false≢true l)
lone_rest (code.Doubles y0 y1 y2) s h1 h2 h3 h4 h5 h6 h7 h8 h9 h10 l = absurd (false≢true l)
lone_rest (code.Dictionary y0 y1 y2) s h1 h2 h3 h4 h5 h6 h7 h8 h9 h10 l = absurd (false≢true l)
lone_rest (code.Document y0) s h1 h2 h3 h4 h5 h6 h7 h8 h9 h10 l = absurd (false≢true l)
lone_rest (code.Header y0 y1) s h1 h2 h3 h4 h5 h6 h7 h8 h9 h10 l = absurd (false≢true l)
lone_rest (code.Message y0 y1) s h1 h2 h3 h4 h5 h6 h7 h8 h9 h10 l = absurd (false≢true l)
lone_rest code.Bottom s h1 h2 h3 h4 h5 h6 h7 h8 h9 h10 l = refl
lone_rest (code.Ended y0) s h1 h2 h3 h4 h5 h6 h7 h8 h9 h10 l = refl
lone_rest (code.Tagged y0 y1) s h1 h2 h3 h4 h5 h6 h7 h8 h9 h10 l = refl
lone_rest (code.Scalar y0) s h1 h2 h3 h4 h5 h6 h7 h8 h9 h10 l = refl
lone_rest (code.Listed y0 y1) s h1 h2 h3 h4 h5 h6 h7 h8 h9 h10 l = refl
lone_rest (code.Dynamic y0 y1) s h1 h2 h3 h4 h5 h6 h7 h8 h9 h10 l = refl
lone_rest (code.Ordered y0 y1 y2) s h1 h2 h3 h4 h5 h6 h7 h8 h9 h10 l = refl
lone_rest (code.Fixed y0 y1) s h1 h2 h3 h4 h5 h6 h7 h8 h9 h10 l = refl
lone_rest (code.Vector y0 y1 y2) s h1 h2 h3 h4 h5 h6 h7 h8 h9 h10 l = refl
lone_rest (code.Typed y0 y1 y2) s h1 h2 h3 h4 h5 h6 h7 h8 h9 h10 l = refl
