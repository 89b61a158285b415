-- The laws of the verdict on AMF 0.
use Rattle.std.proofs.Common.{ℕ, false}
use Rattle.amf_io.specs.Layout.{Layout}
use Rattle.amf_io.proofs.Inputs.{judged, judged_once, fault_is_first}
use Rattle.amf_io.proofs.NextKind.{fixes_next}
use Rattle.amf_graph.specs.Arena.{Arena}
use Rattle.amf3_layout_laws.proofs.MiddleVerdicts.{ends_somewhere, read_once}
use Rattle.amf3_layout_laws.proofs.OneCut.{has_one_cut}
use Rattle.amf0_spelling.specs.KeptTables0.{KeptTables0}
use Rattle.amf0_spelling.specs.Reads0.{IsReading0}
use Rattle.amf0_layout_laws.specs.Layout0State.{state0_of}
use Rattle.amf0_layout_laws.specs.Layout0.{ValueRead0, value0_layout}
use Rattle.amf0_layout_laws.specs.VerdictLaws0.{OneCut0, NextKind0, FirstFault0, Judged0, JudgedOnce0, Ends0, ReadOnce0}
use Rattle.amf0_layout_laws.proofs.Layout0Format.{is_layout0}

abbrev layouts : Arena → KeptTables0 → ℕ → Layout ValueRead0
layouts a t n = value0_layout n false (state0_of a t)

pub one_cut : OneCut0
one_cut a t b v = has_one_cut (layouts a t) (IsReading0 a t) (is_layout0 a t b v)

pub next_kind : NextKind0
next_kind a t b v = fixes_next (layouts a t) (IsReading0 a t) (is_layout0 a t b v)

pub first_fault : FirstFault0
first_fault a t b v base at input reason = fault_is_first (IsReading0 a t) base at input reason

pub is_judged : Judged0
is_judged a t b v limit input bytes = judged (layouts a t) (IsReading0 a t) (is_layout0 a t b v) limit input bytes

pub is_judged_once : JudgedOnce0
is_judged_once a t b v limit input = judged_once (layouts a t) (IsReading0 a t) (is_layout0 a t b v) limit input

pub ends : Ends0
ends a t b v base limit input le bytes = ends_somewhere (layouts a t) (IsReading0 a t) (is_layout0 a t b v) base limit input le bytes

pub once : ReadOnce0
once a t b v base limit input = read_once (layouts a t) (IsReading0 a t) (is_layout0 a t b v) base limit input
