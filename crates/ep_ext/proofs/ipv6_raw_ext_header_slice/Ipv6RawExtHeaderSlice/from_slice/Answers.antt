use Rattle.std.proofs.Common.{◌≡◌, None, drop, take-append-drop, sym, ap, arith}
use Rattle.std.proofs.lemmas.Grind.{common_steps}
use Rattle.ep_base.specs.Bytes.{AreBytes}
use Rattle.ep_base.specs.Tables.{first_row}
use Rattle.ep_ext.specs.RawExtension.{raw_extension_len_of, raw_extension_rows}
use Rattle.ep_ext.proofs.RawExtensionLemmas.{raw_extension_is_read}
use Rattle.ep_ext.proofs.ipv6_raw_ext_header_slice.Ipv6RawExtHeaderSlice.from_slice.Goals as goal

pub returns : goal.returns
returns c =
    let bytes = c.args.slice.now in
    let n = raw_extension_len_of bytes in
    let none : first_row (raw_extension_rows bytes) ≡ None = grind (arith, common_steps) in
    let fits : AreBytes bytes = λ i. omega (arith, c.type_inv.slice i) in
    record {
      ok = (drop n bytes, sym (take-append-drop n bytes), raw_extension_is_read.reads bytes fits none);
      only = λ header rest other. sym (ap (λ read. read.0) (raw_extension_is_read.is_read bytes (header, rest) other).1);
      err = tt;
    }
