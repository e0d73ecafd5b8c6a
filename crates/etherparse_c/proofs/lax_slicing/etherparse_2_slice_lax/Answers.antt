use Rattle.std.proofs.Common.{rules, ◌≡◌, ℕ, ap, sym, ◌∙◌}
use Rattle.etherparse.specs.Types.Entry.TheVariants.{Ethernet as ethernet, Ip as ip}
use Rattle.etherparse_c.specs.SliceAnswers.{entry_of}
use Rattle.etherparse_c.proofs.AnswerLemmas.{read_laxly}
use Rattle.etherparse_c.proofs.lax_slicing.etherparse_2_slice_lax.Goals as goal

pub returns-then-describe_plain : goal.returns-then-describe_plain
returns-then-describe_plain c =
    let first : c.args.entry ≡ 0 = search rules in
    let found = c.describe_plain.ensures c.if-describe_plain.true in
    let read = c.frames_read_laxly.ensures ethernet c.args.bytes.now found.0 found.1 in
    read_laxly (entry_of c.args.entry c.args.ether_type) ethernet c.args.bytes.now read.0 c.describe_plain.new.described
    (ap (λ (n : ℕ). entry_of n c.args.ether_type) first)
    (c.lax_offsets.ensures.places ethernet c.args.bytes.now read.0 c.describe_plain.new.described read.1
    (found.2 ∙ sym read.2))

pub returns-then-describe_plain_ip : goal.returns-then-describe_plain_ip
returns-then-describe_plain_ip c =
    let fourth : c.args.entry ≡ 3 = search rules in
    let found = c.describe_plain_ip.ensures c.if-describe_plain_ip.true in
    let read = c.frames_read_laxly.ensures ip c.args.bytes.now found.0 found.1 in
    read_laxly (entry_of c.args.entry c.args.ether_type) ip c.args.bytes.now read.0 c.describe_plain_ip.new.described
    (ap (λ (n : ℕ). entry_of n c.args.ether_type) fourth)
    (c.lax_offsets.ensures.places ip c.args.bytes.now read.0 c.describe_plain_ip.new.described read.1
    (found.2 ∙ sym read.2))
