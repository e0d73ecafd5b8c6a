use Rattle.std.proofs.Common.{◌≡◌, Option, Some, None, false, refl, ap, sym, ◌∙◌, is_some}
use Rattle.std.proofs.lemmas.Bool.{false≢true}
use Rattle.std.specs.Option.{option_map}
use Rattle.etherparse.specs.LaxPackets.{lax_layers_of}
use Rattle.etherparse.specs.Streams.{PacketFragment}
use Rattle.packet_dump.specs.CarriedFragments.{fragment_in, named_fragment, plain_carried}
use Rattle.packet_dump.proofs.PoolLemmas.{processes_none}
use Rattle.packet_dump.proofs.pooling.Pooling.process_frame.Goals as goal

pub process_fragment-requires : goal.process_fragment-requires
process_fragment-requires c = ap (option_map plain_carried) (sym c.in-Some.is) ∙ c.carried_fragment.ensures

none_named : (carried : Option PacketFragment) → is_some carried ≡ false → None ≡ option_map named_fragment carried
none_named None none = refl
none_named (Some carried) none = absurd (false≢true (sym none))

pub returns-then-not-carries_fragment : goal.returns-then-not-carries_fragment
returns-then-not-carries_fragment c =
    processes_none c.args.options.now c.args.packet.now c.args.self.now c.args.output.now.items
    (none_named (fragment_in (lax_layers_of c.args.packet.now.read))
    (sym c.carries_fragment.ensures ∙ c.if-not-carries_fragment.true))

pub returns-in-None : goal.returns-in-None
returns-in-None c =
    processes_none c.args.options.now c.args.packet.now c.args.self.now c.args.output.now.items
    (ap (option_map plain_carried) (sym c.in-None.is) ∙ c.carried_fragment.ensures)
