use Rattle.std.proofs.Common.{◌≡◌, None, drop, take-append-drop, sym, ap, arith}
use Rattle.std.proofs.lemmas.Grind.{common_steps}
use Rattle.ep_base.specs.Bytes.{AreBytes}
use Rattle.ep_base.specs.Tables.{first_row}
use Rattle.ep_ext.specs.IpAuth.{ip_auth_len_of, ip_auth_rows}
use Rattle.ep_ext.proofs.IpAuthLemmas.{ip_auth_is_read}
use Rattle.ep_ext.proofs.ip_auth_header_slice.IpAuthHeaderSlice.from_slice.Goals as goal

pub returns : goal.returns
returns c =
    let bytes = c.args.slice.now in
    let n = ip_auth_len_of bytes in
    let none : first_row (ip_auth_rows bytes) ≡ None = grind (arith, common_steps) in
    let fits : AreBytes bytes = λ i. omega (arith, c.type_inv.slice i) in
    record {
      ok = (drop n bytes, sym (take-append-drop n bytes), ip_auth_is_read.reads bytes fits none);
      only = λ header rest other. sym (ap (λ read. read.0) (ip_auth_is_read.is_read bytes (header, rest) other).1);
      err = tt;
    }

pub invariant_of-result : goal.invariant_of-result
invariant_of-result c = grind (arith, common_steps)

pub returns-then-slice-eq0-clause-only : goal.returns-then-slice-eq0-clause-only
returns-then-slice-eq0-clause-only c = grind (arith, common_steps)

pub returns-then-slice-eq0-clause-err : goal.returns-then-slice-eq0-clause-err
returns-then-slice-eq0-clause-err c = grind (arith, common_steps)
