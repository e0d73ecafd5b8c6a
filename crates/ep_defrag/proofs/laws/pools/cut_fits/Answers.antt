use Rattle.std.proofs.lemmas.List.Elements.{recursion_from_All}
use Rattle.ep_defrag.specs.PayloadCuts.{IsCut}
use Rattle.ep_defrag.proofs.CutLemmas.{cut_fits_after}
use Rattle.ep_defrag.proofs.laws.pools.cut_fits.Goals as goal

pub returns : goal.returns
returns c limit payload cuts cut short all is_cut shape =
    cut_fits_after payload limit cuts cut short (recursion_from_All (IsCut payload) cuts all) is_cut shape
