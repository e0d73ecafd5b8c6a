use Rattle.std.proofs.Common.{◌≡◌, length, ap, subst, arith, rules}
use Rattle.ep_base.specs.Bytes.{AreBytes}
use Rattle.ep_ext.specs.IpAuth.{ip_auth_icv}
use Rattle.ep_ext.proofs.ip_auth_header.IpAuthHeader.to_bytes.Goals as goal

pub returns-clause-fits : goal.returns-clause-fits
returns-clause-fits c =
    let raw_icv = c.raw_icv-raw_icv in
    let len : length raw_icv.result.now ≡ length (ip_auth_icv c.args.self.now) = ap length raw_icv.ensures.value in
    record {
      next_header = c.fixed_bytes-fixed.ensures.fits.0;
      spi = c.fixed_bytes-fixed.ensures.fits.1;
      sequence_number = c.fixed_bytes-fixed.ensures.fits.2;
      icv_len = omega (arith, len, raw_icv.ensures.bound);
      icv_words = omega (arith, len, raw_icv.ensures.words);
      icv = subst AreBytes raw_icv.ensures.value (λ i. search rules);
    }
