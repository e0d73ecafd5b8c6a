use Rattle.std.proofs.Common.{◌≡◌, ◌+◌, ◌*◌, ◌/◌, None, length, slice_index}
use Rattle.std.proofs.Common.{bit_and, take-append-drop, drop, take, sym, arith}
use Rattle.std.proofs.lemmas.Grind.{common_steps}
use Rattle.ep_base.specs.Bytes.{AreBytes}
use Rattle.ep_base.specs.Tables.{first_row}
use Rattle.ep_base.proofs.TableLemmas.{shown_is}
use Rattle.ep_link.specs.Macsec.{macsec_header_rows, tag_len_of}
use Rattle.ep_link.proofs.MacsecLemmas.{macsec_header_is_read, macsec_header_parts}
use Rattle.ep_link.proofs.link_ext.macsec_header_slice.MacsecHeaderSlice.from_slice.Goals as goal

pub returns : goal.returns
returns c =
    let bytes = c.args.slice.now in
    let n = 6 + bit_and (slice_index bytes 0 / 32) 1 * 8 + c.if-modification-eq0-2.type_len in
    let size : n ≡ tag_len_of bytes = grind (arith, common_steps) in
    let none : first_row (macsec_header_rows bytes) ≡ None = grind (arith, common_steps) in
    let fits : AreBytes bytes = λ i. omega (arith, c.type_inv.slice i) in
    let tag = take n bytes in
    let rest = drop n bytes in
    let parts = sym (take-append-drop n bytes) in
    let len : length tag ≡ tag_len_of bytes = grind (arith, common_steps, size) in
    let is =
    shown_is tag_len_of macsec_header_parts macsec_header_is_read bytes tag rest fits none parts len in
    record {
      ok = (rest, parts, is.0);
      only = λ read other. let same = is.1 read other in λ i. (sym same i).0;
      err = tt;
    }
