-- Worked refusals: texts with one fault each, and where it is.
use Rattle.std.specs.Prelude.{◌≡◌, ℕ, List, [], ◌∷◌, Some, None, if◌then◌else◌, codes, bytes_eq}
use Rattle.json.specs.Token.{Token}
use Rattle.amf_text.specs.declared.reason.TextReason.{TextReason}
use Rattle.amf_text.specs.declared.reason.TextReason.TheVariants.{BadKey, BadShape, BadNumber, BadHex, BadText, SameLabel}
use Rattle.amf_text.specs.Scalars.{Reads}
use Rattle.amf_text.specs.Asks.{Goal, start, goals_step, fault_of}
use Rattle.amf_text.specs.Scan.{ended, comma_last, inside, fault, scan}
use Rattle.amf_text.specs.Refused.{label_places}

-- the patterns of the numbers in the rows
abbrev pub few_reads : Reads
few_reads s = if bytes_eq s (codes "1.5") then Some 0x3FF8000000000000 else (if bytes_eq s (codes "5") then Some 0x4014000000000000 else (if bytes_eq s (codes "2") then Some 0x4000000000000000 else (if bytes_eq s (codes "1") then Some 0x3FF0000000000000 else (None))))

-- what is left behind tokens, or the first that is wrong
pub data Walk : Type 0 where
  left : (gs : List Goal) → Walk
  wrong : (reason : TextReason) → (at : ℕ) → Walk

abbrev pub walk : Reads → List Goal → List (ℕ × Token) → Walk
walk reads gs [] = left gs
walk reads gs (p ∷ ts) = elim (goals_step reads gs p.1) [ None ↦ wrong (fault_of gs p.1) p.0 | Some hs ↦ walk reads hs ts ]

pub record RefusalRows : Type 0 where
  pub cut_between_stop : (scan (codes "{\"amf\":\"amf3\"\n")).stop ≡ ended
  pub cut_behind_comma_stop : (scan (codes "{\"amf\":\"amf3\",\n")).stop ≡ comma_last 13
  pub cut_word_stop : (scan (codes "{\"amf\":\"amf3\",\"root\":tru")).stop ≡ inside 21
  pub cut_number_stop : (scan (codes "{\"amf\":\"amf3\",\"root\":12")).stop ≡ inside 21
  pub cut_string_stop : (scan (codes "{\"amf\":\"am")).stop ≡ inside 7
  pub cut_key : walk few_reads (start ∷ []) (scan (codes "{\"amf\":\"amf3\",\"root\"")).tokens ≡ wrong BadKey 14
  pub cut_key_stop : (scan (codes "{\"amf\":\"amf3\",\"root\"")).stop ≡ ended
  pub no_comma_stop : (scan (codes "{\"amf\":\"amf3\" \"root\":1}")).stop ≡ fault 14
  pub no_word_stop : (scan (codes "{\"amf\":\"amf3\",\"root\":True}")).stop ≡ fault 21
  pub lone_surrogate_stop : (scan (codes "{\"amf\":\"amf3\",\"root\":\"\\ud800\"}")).stop ≡ fault 21
  pub other_key : walk few_reads (start ∷ []) (scan (codes "{\"amf\":\"amf3\",\"rood\":1}")).tokens ≡ wrong BadKey 14
  pub other_tag : walk few_reads (start ∷ []) (scan (codes "{\"amf\":\"amf3\",\"root\":{\"$data\":1}}")).tokens ≡ wrong BadKey 22
  pub no_key : walk few_reads (start ∷ []) (scan (codes "{\"amf\":\"amf3\",\"root\":{\"a\":1,2}}")).tokens ≡ wrong BadKey 28
  pub key_in_list : walk few_reads (start ∷ []) (scan (codes "{\"amf\":\"amf3\",\"root\":[\"a\":1]}")).tokens ≡ wrong BadKey 22
  pub falling_names : walk few_reads (start ∷ []) (scan (codes "{\"amf\":\"amf3\",\"root\":{\"$class\":\"\",\"$sealed\":{\"b\":1,\"a\":2}}}")).tokens ≡ wrong BadKey 51
  pub other_name : walk few_reads (start ∷ []) (scan (codes "{\"amf\":\"amf3\",\"root\":{\"$class\":\"\",\"$names\":[\"b\",\"a\"],\"$sealed\":{\"b\":1,\"c\":2}}}")).tokens ≡ wrong BadKey 70
  pub twice_named : walk few_reads (start ∷ []) (scan (codes "{\"amf\":\"amf3\",\"root\":{\"$class\":\"\",\"$names\":[\"b\",\"b\"]}}")).tokens ≡ wrong BadKey 48
  pub other_word : walk few_reads (start ∷ []) (scan (codes "{\"amf\":\"amf4\",\"root\":1}")).tokens ≡ wrong BadShape 7
  pub row_no_node : walk few_reads (start ∷ []) (scan (codes "{\"amf\":\"amf3\",\"nodes\":{\"1\":5},\"root\":1}")).tokens ≡ wrong BadShape 27
  pub infinite : walk few_reads (start ∷ []) (scan (codes "{\"amf\":\"amf3\",\"root\":1e999}")).tokens ≡ wrong BadNumber 21
  pub half_int : walk few_reads (start ∷ []) (scan (codes "{\"amf\":\"amf3\",\"root\":{\"$ints\":[1.5]}}")).tokens ≡ wrong BadNumber 31
  pub no_pattern : walk few_reads (start ∷ []) (scan (codes "{\"amf\":\"amf3\",\"root\":{\"$date\":\"zz\"}}")).tokens ≡ wrong BadNumber 30
  pub no_hex : walk few_reads (start ∷ []) (scan (codes "{\"amf\":\"amf3\",\"root\":{\"$bytes\":\"0\"}}")).tokens ≡ wrong BadHex 31
  pub no_text : walk few_reads (start ∷ []) (scan (codes "{\"amf\":\"amf3\",\"root\":{\"$text\":\"ff\"}}")).tokens ≡ wrong BadText 30
  pub same_label : walk few_reads (start ∷ []) (scan (codes "{\"amf\":\"amf3\",\"nodes\":{\"1\":[],\"1\":[]},\"root\":1}")).tokens ≡ wrong SameLabel 30
  pub behind : walk few_reads (start ∷ []) (scan (codes "{\"amf\":\"amf3\",\"root\":1}\n1 ")).tokens ≡ left []
  pub behind_stop : (scan (codes "{\"amf\":\"amf3\",\"root\":1}\n1 ")).stop ≡ fault 24
  pub comma_behind : walk few_reads (start ∷ []) (scan (codes "{\"amf\":\"amf3\",\"root\":1},")).tokens ≡ left []
  pub comma_behind_stop : (scan (codes "{\"amf\":\"amf3\",\"root\":1},")).stop ≡ comma_last 23
  pub bad_version : walk few_reads (start ∷ []) (scan (codes "{\"amf\":\"sol\",\"name\":\"\",\"pairs\":{},\"version\":1}")).tokens ≡ wrong BadNumber 44
  pub no_label : label_places few_reads (Some (start ∷ [])) (scan (codes "{\"amf\":\"amf3\",\"nodes\":{\"1\":[]},\"root\":[{\"$node\":\"1\"},{\"$node\":\"2\"}]}")).tokens ≡ 48 ∷ 62 ∷ []
