use Rattle.std.proofs.Common.{◌≡◌, ◌-◌, length, take, drop, sym, ap, subst, arith}
use Rattle.std.proofs.lemmas.List.{length-append}
use Rattle.ep_base.proofs.BytesLemmas.{rest_of}
use Rattle.ep_ext.specs.ExtensionParts.{IsExtensionPart}
use Rattle.ep_ext.specs.Ipv6ExtensionSlices.{extension_slice_bytes, extension_slice_part}
use Rattle.ep_ext.proofs.ipv6_exts.Ipv6Extensions.read_one.Goals as goal

pub slice_bounds-result-count : goal.slice_bounds-result-count
slice_bounds-result-count c =
    let ok = c.in-Ok.ensures.ok in
    let prefix = extension_slice_bytes c.in-Ok.part in
    omega (arith, ap length ok.1, length-append prefix ok.0, ap length c.slice.ensures)

pub slice_bounds-result-start : goal.slice_bounds-result-start
slice_bounds-result-start c =
    let ok = c.in-Ok.ensures.ok in
    let prefix = extension_slice_bytes c.in-Ok.part in
    omega (arith, ap length ok.1, length-append prefix ok.0, ap length c.slice.ensures)

pub returns-clause-ok : goal.returns-clause-ok
returns-clause-ok c =
    let bytes = c.args.slice.now in
    let part = c.in-Ok.part in
    let ok = c.in-Ok.ensures.ok in
    let n = length c.slice.result.now in
    let rest : take (length bytes - n) (drop n bytes) ≡ ok.0 =
    rest_of bytes (extension_slice_bytes part) ok.0 n ok.1 (ap length c.slice.ensures) in (
      extension_slice_part part,
      c.store.ensures,
      c.next_header.ensures,
      subst (IsExtensionPart c.args.number.0 bytes (extension_slice_part part)) (sym rest) ok.2,
    )
