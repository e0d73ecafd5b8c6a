use Rattle.std.proofs.Common.{◌≡◌, Some, ◌-◌, ◌++◌, ◌∙◌, List, ℕ, length, take, drop, sym, ap, subst, inl, inr, arith}
use Rattle.ep_base.specs.Bytes.{AreBytes}
use Rattle.ep_base.specs.Tables.{parts_of}
use Rattle.ep_base.proofs.TableLemmas.{one_value, refused_is_not}
use Rattle.ep_base.specs.declared.err.macsec.HeaderSliceError.TheVariants as header_error
use Rattle.ep_link.specs.Macsec.{IsMacsec, macsec_header_of, macsec_payload, macsec_payload_bytes}
use Rattle.ep_link.specs.MacsecSlices.{macsec_payload_of}
use Rattle.ep_link.proofs.MacsecReadLemmas.{IsComplete}
use Rattle.ep_link.proofs.MacsecLemmas.{EndsAt, cut_refused, macsec_is_read, payload_by_bytes, sliced_packet}
use Rattle.ep_link.proofs.MacsecLemmas.{tag_refused}
use Rattle.ep_link.proofs.link_ext.macsec_slice.MacsecSlice.from_slice.Goals as goal
use Rattle.ep_link.proofs.link_ext.macsec_slice.MacsecSlice.from_slice.Goals.{in-Some, in-None}

pub returns : goal.returns
returns c =
    let bytes = c.args.slice.now in
    let fits : AreBytes bytes = λ i. omega (arith, c.type_inv.slice i) in
    let facts = c.in_ok-header.header.tag in
    let tag = facts.slice.now in
    let complete : IsComplete tag =
    record { fixed = facts.fixed; version = facts.version; room = facts.holds_type; whole = facts.whole } in
    let n = c.header_len-header_len.result in
    let end = c.match-payload_len.end in
    let ends : EndsAt tag n (length bytes) end = elim c.match-payload_len.branch [
      | in-Some w ↦ inl (w.in-Some.ensures.0, omega (arith, w.in-Some.ensures.1))
      | in-None w ↦ inr (w.in-None.ensures, w.end-is)
    ] in
    let ok = c.in_ok-header.ensures.ok in
    let tag_len = c.header_len-header_len.ensures.bytes in
    let is = sliced_packet bytes tag ok.0 n end fits ok.1 complete tag_len ends (omega arith) in
    let payload = take (end - n) (drop n bytes) in
    let left = drop end bytes in
    let header = macsec_header_of tag in
    let shown = macsec_payload_of c.of_tag-payload.result in
    let same : macsec_payload_bytes shown ≡ payload =
    ap macsec_payload_bytes c.of_tag-payload.ensures ∙ payload_by_bytes _ _ payload in
    let Ok : List ℕ → Type 0 =
    λ x. (left : List ℕ) × (bytes ≡ (tag ++ x) ++ left) × IsMacsec bytes (parts_of header x left) in
    record {
      ok = subst Ok (sym same) (left, is.parts, is.is);
      payload = c.of_tag-payload.ensures ∙ ap (macsec_payload header) (sym same);
      only = λ packet other.
          let one = one_value macsec_is_read bytes (parts_of header payload left) packet is.is other in
          ap (λ x. parts_of header x packet.left) same ∙ (λ i. parts_of (one i).header (one i).payload packet.left);
      err = tt;
    }

pub returns-then-slice-end : goal.returns-then-slice-end
returns-then-slice-end c =
    let bytes = c.args.slice.now in
    let facts = c.in_ok-header.header.tag in
    let tag = facts.slice.now in
    let complete : IsComplete tag =
    record { fixed = facts.fixed; version = facts.version; room = facts.holds_type; whole = facts.whole } in
    let n = c.header_len-header_len.result in
    let end = c.match-payload_len.end in
    let ends : EndsAt tag n (length bytes) end = elim c.match-payload_len.branch [
      | in-Some w ↦ inl (w.in-Some.ensures.0, omega (arith, w.in-Some.ensures.1))
      | in-None w ↦ inr (w.in-None.ensures, w.end-is)
    ] in
    let ok = c.in_ok-header.ensures.ok in
    let tag_len = c.header_len-header_len.ensures.bytes in
    let refused = cut_refused bytes tag ok.0 n end ok.1 complete tag_len ends (omega arith) in
    record {
      ok = tt;
      payload = tt;
      only = λ packet is. absurd (refused_is_not macsec_is_read bytes packet _ refused is);
      err = refused ∙ ap (λ e. Some (header_error.Len e)) (sym c.at_start.ensures);
    }

pub returns-in_err-header-clause-only : goal.returns-in_err-header-clause-only
returns-in_err-header-clause-only c =
    λ packet is. absurd (tag_refused c.args.slice.now packet _ c.in_err-header.ensures.err is)
