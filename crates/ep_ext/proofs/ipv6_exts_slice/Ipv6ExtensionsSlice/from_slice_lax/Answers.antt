use Rattle.std.proofs.Common.{◌≡◌, ◌-◌, ◌≤◌, ◌∙◌, ◌||◌, Bool, Some, None, length, refl, sym, ap, arith}
use Rattle.std.specs.Option.{option_map}
use Rattle.std.proofs.lemmas.Bool.{eqb-true, eqb-false}
use Rattle.ep_base.specs.Bytes.{AreBytes}
use Rattle.ep_base.specs.Readings.{slices}
use Rattle.ep_base.specs.declared.err.ipv6_exts.HeaderError.TheVariants as content
use Rattle.ep_base.specs.declared.err.ipv6_exts.HeaderSliceError.TheVariants as header_error
use Rattle.ep_base.proofs.BytesLemmas.{rest_of}
use Rattle.ep_ext.specs.ChainPrefixes.{chain_stop}
use Rattle.ep_ext.specs.Ipv6ExtensionSlices.{extension_slice_bytes, extension_slice_part, ipv6_slice_bytes, ipv6_slice_number}
use Rattle.ep_ext.proofs.PrefixLemmas.{prefix_answered, prefix_ends, prefix_fragments, prefix_misplaced, prefix_more, prefix_nothing, prefix_refused, prefix_within}
use Rattle.ep_ext.proofs.RefusalLemmas.{part_at_start}
use Rattle.ep_ext.proofs.ipv6_exts_slice.Ipv6ExtensionsSlice.from_slice_lax.Goals as goal
use Rattle.ep_ext.proofs.ipv6_exts_slice.Ipv6ExtensionsSlice.from_slice_lax.Goals.{else-eq-via-then-eq+else-offset-gt0, else-eq-via-else-eq}

pub loop-offset-init : goal.loop-offset-init
loop-offset-init c = prefix_nothing slices c.args.number.0 c.args.slice.now

pub headers_before-ahead-requires : goal.headers_before-ahead-requires
headers_before-ahead-requires c =
    let here = c.loop-offset in
    record {
      fragments = prefix_fragments c.args.number.0 c.args.slice.now here.next.0 here.rest.now here.fragmented
          here.invariant;
      within = prefix_within c.args.number.0 c.args.slice.now here.next.0 here.rest.now here.fragmented here.invariant;
    }

pub returns-then-offset-gt0 : goal.returns-then-offset-gt0
returns-then-offset-gt0 c =
    let bytes = c.args.slice.now in
    let fits : AreBytes bytes = λ i. omega (arith, c.type_inv.slice i) in
    let here = c.loop-offset in
    let first = c.args.number.0 in
    let misplaced = header_error.Content content.HopByHopNotAtStart in
    let prefix = prefix_misplaced first bytes here.next.0 here.rest.now here.fragmented here.invariant
    (eqb-true _ _ (sym c.eq.ensures ∙ c.if-eq.true)) c.if-offset-gt0.true in
    let is = prefix_answered first bytes here.next.0 here.rest.now here.fragmented (Some misplaced) fits prefix
    (ipv6_slice_bytes c.headers_before-ahead.result) c.headers_before-ahead.ensures.bytes (ipv6_slice_number c.headers_before-ahead.result)
    c.headers_before-ahead.ensures.number in
    record {
      bytes = is.0;
      chain = (Some misplaced, is.1, refl);
      only = λ chain stop other.
          let same = is.2 chain stop other in
          (same.0, ap (option_map chain_stop) same.1);
      number = c.headers_before-ahead.ensures.number;
    }

pub headers_before-before_error-requires : goal.headers_before-before_error-requires
headers_before-before_error-requires c =
    let here = c.loop-offset in
    record {
      fragments = prefix_fragments c.args.number.0 c.args.slice.now here.next.0 here.rest.now here.fragmented
          here.invariant;
      within = prefix_within c.args.number.0 c.args.slice.now here.next.0 here.rest.now here.fragmented here.invariant;
    }

pub with_offset-requires : goal.with_offset-requires
with_offset-requires c =
    let start = part_at_start c.loop-offset.next.0 c.loop-offset.rest.now c.in-Err.error c.in-Err.ensures.err in
    omega (arith, start)

pub returns-in-Err : goal.returns-in-Err
returns-in-Err c =
    let bytes = c.args.slice.now in
    let fits : AreBytes bytes = λ i. omega (arith, c.type_inv.slice i) in
    let here = c.loop-offset in
    let first = c.args.number.0 in
    let number = here.next.0 in
    let rest = here.rest.now in
    let start : number ≡ 0 → length bytes - length rest ≤ 0 = λ zero_is. elim c.else-eq.branch [
      | else-eq-via-then-eq+else-offset-gt0 w ↦ omega arith
      | else-eq-via-else-eq w ↦ absurd (eqb-false _ _ (sym c.eq.ensures ∙ w.if-eq.false) zero_is)
    ] in
    let prefix = prefix_refused first bytes number rest here.fragmented c.in-Err.error c.with_offset.result here.invariant
    (sym c.is_extension.ensures ∙ c.loop-offset-test.true) start c.in-Err.ensures.err c.with_offset.ensures in
    let is = prefix_answered first bytes number rest here.fragmented (Some c.with_offset.result) fits prefix
    (ipv6_slice_bytes c.headers_before-before_error.result) c.headers_before-before_error.ensures.bytes
    (ipv6_slice_number c.headers_before-before_error.result)
    c.headers_before-before_error.ensures.number in
    let reported = ap Some c.error_with_layer.ensures in
    record {
      bytes = is.0;
      chain = (Some c.with_offset.result, is.1, reported);
      only = λ chain stop other.
          let same = is.2 chain stop other in
          (same.0, reported ∙ ap (option_map chain_stop) same.1);
      number = c.headers_before-before_error.ensures.number;
    }

pub loop-offset-preserved : goal.loop-offset-preserved
loop-offset-preserved c =
    let bytes = c.args.slice.now in
    let number = c.loop-offset.next.0 in
    let rest = c.loop-offset.rest.now in
    let start : number ≡ 0 → length bytes - length rest ≤ 0 = λ zero_is. elim c.else-eq.branch [
      | else-eq-via-then-eq+else-offset-gt0 w ↦ omega arith
      | else-eq-via-else-eq w ↦ absurd (eqb-false _ _ (sym c.eq.ensures ∙ w.if-eq.false) zero_is)
    ] in
    let ok = c.in-Ok.ensures.ok in
    let part = c.in-Ok.part in
    let after = rest_of rest (extension_slice_bytes part) ok.0 (length c.slice.result.now) ok.1
    (ap length c.slice.ensures) in
    prefix_more c.args.number.0 bytes number rest c.loop-offset.fragmented
    (extension_slice_part part) ok.0 _ _ _ c.loop-offset.invariant
    (sym c.is_extension.ensures ∙ c.loop-offset-test.true) start ok.2 c.next_header-next.ensures after
    (ap (λ (b : Bool). c.loop-offset.fragmented || b) c.is_fragmenting_payload-fragmented.ensures)

pub headers_before-all-requires : goal.headers_before-all-requires
headers_before-all-requires c =
    let here = c.loop-offset in
    record {
      fragments = prefix_fragments c.args.number.0 c.args.slice.now here.next.0 here.rest.now here.fragmented
          here.invariant;
      within = prefix_within c.args.number.0 c.args.slice.now here.next.0 here.rest.now here.fragmented here.invariant;
    }

pub returns : goal.returns
returns c =
    let bytes = c.args.slice.now in
    let fits : AreBytes bytes = λ i. omega (arith, c.type_inv.slice i) in
    let here = c.loop-offset in
    let first = c.args.number.0 in
    let prefix = prefix_ends first bytes here.next.0 here.rest.now here.fragmented here.invariant
    (sym c.is_extension.ensures ∙ c.loop-offset-test.false) in
    let is = prefix_answered first bytes here.next.0 here.rest.now here.fragmented None fits prefix
    (ipv6_slice_bytes c.headers_before-all.result) c.headers_before-all.ensures.bytes (ipv6_slice_number c.headers_before-all.result)
    c.headers_before-all.ensures.number in
    record {
      bytes = is.0;
      chain = (None, is.1, refl);
      only = λ chain stop other.
          let same = is.2 chain stop other in
          (same.0, ap (option_map chain_stop) same.1);
      number = c.headers_before-all.ensures.number;
    }
