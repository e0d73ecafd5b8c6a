use Rattle.std.proofs.Common.{rules, ◌≡◌, ℕ, ap}
use Rattle.etherparse.specs.Types.Entry.TheVariants.{Ethernet as ethernet, Ip as ip}
use Rattle.etherparse_c.specs.SliceAnswers.{entry_of}
use Rattle.etherparse_c.proofs.AnswerLemmas.{sliced}
use Rattle.etherparse_c.proofs.slicing.etherparse_2_slice.Goals as goal

pub returns-then-describe_plain : goal.returns-then-describe_plain
returns-then-describe_plain c =
    let first : c.args.entry ≡ 0 = search rules in
    let found = c.describe_plain.ensures c.if-describe_plain.true in
    sliced (entry_of c.args.entry c.args.ether_type) ethernet c.args.bytes.now found.0 c.describe_plain.new.described
    (ap (λ (n : ℕ). entry_of n c.args.ether_type) first)
    (c.frame_offsets.ensures.places ethernet c.args.bytes.now found.0 c.describe_plain.new.described found.1 found.2)

pub returns-then-describe_plain_ip : goal.returns-then-describe_plain_ip
returns-then-describe_plain_ip c =
    let fourth : c.args.entry ≡ 3 = search rules in
    let found = c.describe_plain_ip.ensures c.if-describe_plain_ip.true in
    sliced (entry_of c.args.entry c.args.ether_type) ip c.args.bytes.now found.0 c.describe_plain_ip.new.described
    (ap (λ (n : ℕ). entry_of n c.args.ether_type) fourth)
    (c.frame_offsets.ensures.places ip c.args.bytes.now found.0 c.describe_plain_ip.new.described found.1 found.2)
