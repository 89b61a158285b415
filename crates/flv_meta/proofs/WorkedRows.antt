-- A file with one tag, and inputs that are none.
use Rattle.std.proofs.Common.{◌≡◌, ℕ, suc, ◌≤◌, List, [], ◌∷◌, ◌++◌, length, get_or, refl, sym, ap, ◌∙◌, arith, length-append}
use Rattle.amf_io.specs.declared.reason.Reason.TheVariants.{Truncated}
use Rattle.amf_io.specs.Field.{Field, field, flat, raw_kind}
use Rattle.amf_io.specs.Verdict.{Follows, IsRefused, faulty, truncated}
use Rattle.flv_meta.specs.File.{Tag, File, IsHead, IsTag, IsFile, tag_bytes}
use Rattle.flv_meta.specs.Fields.{signature, version, offset, file_fields, IsTagReading, IsFileReading}
use Rattle.flv_meta.specs.WorkedFiles.{most, head, sound, plain, FilesHold}
use Rattle.flv_meta.proofs.FileVerdicts.{tag_refusals_lift}
use Rattle.flv_meta.proofs.Tags.{tag_flat}

is_head : IsHead head
is_head = record { number = refl; bytes = (omega arith, (omega arith, (omega arith, (omega arith, (omega arith, (omega arith, (omega arith, (omega arith, (omega arith, (omega arith, (omega arith, (omega arith, (omega arith, tt))))))))))))) }

is_sound : IsTag sound
is_sound = record {
  size = refl;
  time = refl;
  stream = refl;
  body = refl;
  number = refl;
  bytes = (omega arith, (omega arith, (omega arith, (omega arith, (omega arith, (omega arith, (omega arith, (omega arith, (omega arith, (omega arith, (omega arith, (omega arith, (omega arith, (omega arith, (omega arith, (omega arith, tt))))))))))))))));
}

is_plain : IsFile plain
is_plain = record { head = is_head; tags = (is_sound, tt) }

abbrev bare : File
bare = record { head = head; tags = [] }

is_bare : IsFile bare
is_bare = record { head = is_head; tags = tt }

-- a tag without data
abbrev pub hollow : Tag
hollow = record { kind = 8; size = 0 ∷ 0 ∷ 0 ∷ []; time = 0 ∷ 0 ∷ 0 ∷ 0 ∷ []; stream = 0 ∷ 0 ∷ 0 ∷ []; body = []; number = 0 ∷ 0 ∷ 0 ∷ 0 ∷ [] }

pub is_hollow : IsTag hollow
is_hollow = record {
  size = refl;
  time = refl;
  stream = refl;
  body = refl;
  number = refl;
  bytes = (omega arith, (omega arith, (omega arith, (omega arith, (omega arith, (omega arith, (omega arith, (omega arith, (omega arith, (omega arith, (omega arith, (omega arith, (omega arith, (omega arith, (omega arith, tt)))))))))))))));
}

-- two bytes are the front of a tag, and no tag
cut_tag : IsRefused IsTagReading 29 most (8 ∷ 0 ∷ []) Truncated 30
cut_tag = truncated refl (record {
  within = omega arith;
  cut_off = record {
    start = field (raw_kind 1) (8 ∷ []) ∷ [];
    kind = raw_kind 3;
    rest = 0 ∷ [];
    follows = record {
      next = field (raw_kind 3) (0 ∷ 0 ∷ 0 ∷ []);
      more = field (raw_kind 4) (0 ∷ 0 ∷ 0 ∷ 0 ∷ []) ∷ field (raw_kind 3) (0 ∷ 0 ∷ 0 ∷ []) ∷ field (raw_kind 4) (0 ∷ 0 ∷ 0 ∷ 0 ∷ []) ∷ [];
      is_kind = refl;
      accepted = (hollow, is_hollow, refl);
    };
    place = refl;
    parts = refl;
    is_short = refl;
  };
  not_accepted = λ fs p e. short p.0 p.1 (sym (tag_flat p.0) ∙ ap flat (sym p.2) ∙ e);
})
  where
    short : (t : Tag) → IsTag t → tag_bytes t ≡ 8 ∷ 0 ∷ [] → ⊥
    short t h e =
        let size = h.size in
        let long : suc (length t.size) ≤ length (tag_bytes t) = simp length-append (omega arith) in
        absurd (omega (arith, ap length e))

follows_bare : (start : List Field) (next : Field) (more : List Field) → file_fields bare ≡ start ++ next ∷ more → Follows IsFileReading start next.kind
follows_bare start next more e = record { next = next; more = more; is_kind = refl; accepted = (bare, is_bare, sym e) }

-- the fixed bytes of a head
other : (f : File) (begin rest : List ℕ) (i found : ℕ) → flat (file_fields f) ≡ begin ++ rest → get_or (begin ++ rest) i 0 ≡ found → (get_or (flat (file_fields f)) i 0 ≡ found → ⊥) → ⊥
other f begin rest i found e at none = none (ap (λ l. get_or l i 0) e ∙ at)

pub files_hold : FilesHold
files_hold = record {
  is_plain = refl;
  accepted = record { fields = file_fields plain; accepted = (plain, is_plain, refl); parts = refl; place = refl; within = omega arith };
  set = refl;
  drop = refl;
  shown = refl;
  cut = tag_refusals_lift plain (8 ∷ 0 ∷ []) 0 most 29 30 Truncated is_plain (omega arith) refl (omega arith) cut_tag;
  signature = faulty (record {
    start = [];
    kind = signature.kind;
    rest = 0x46 ∷ 0x4C ∷ 0x57 ∷ [];
    size = 3;
    follows = follows_bare [] signature _ refl;
    place = refl;
    parts = refl;
    is_whole = refl;
    none = λ o. let p = o.accepted in other p.0 (0x46 ∷ 0x4C ∷ 0x57 ∷ []) o.rest 2 87 (ap flat (sym p.2) ∙ o.begins) refl (λ h. let clash : ◌≡◌ {A = ℕ} 86 87 = h in absurd (omega arith));
    refused = refl;
  });
  version = faulty (record {
    start = signature ∷ [];
    kind = version.kind;
    rest = 2 ∷ [];
    size = 1;
    follows = follows_bare (signature ∷ []) version _ refl;
    place = refl;
    parts = refl;
    is_whole = refl;
    none = λ o. let p = o.accepted in other p.0 (0x46 ∷ 0x4C ∷ 0x56 ∷ 2 ∷ []) o.rest 3 2 (ap flat (sym p.2) ∙ o.begins) refl (λ h. let clash : ◌≡◌ {A = ℕ} 1 2 = h in absurd (omega arith));
    refused = refl;
  });
  offset = faulty (record {
    start = signature ∷ version ∷ field (raw_kind 1) (5 ∷ []) ∷ [];
    kind = offset.kind;
    rest = 0 ∷ 0 ∷ 0 ∷ 8 ∷ [];
    size = 4;
    follows = follows_bare (signature ∷ version ∷ field (raw_kind 1) (5 ∷ []) ∷ []) offset _ refl;
    place = refl;
    parts = refl;
    is_whole = refl;
    none = λ o. let p = o.accepted in other p.0 (0x46 ∷ 0x4C ∷ 0x56 ∷ 1 ∷ 5 ∷ 0 ∷ 0 ∷ 0 ∷ 8 ∷ []) o.rest 8 8 (ap flat (sym p.2) ∙ o.begins) refl (λ h. let clash : ◌≡◌ {A = ℕ} 9 8 = h in absurd (omega arith));
    refused = refl;
  });
}
