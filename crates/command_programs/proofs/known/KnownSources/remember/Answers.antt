-- One more is known, unless memory was wanting.
use Rattle.std.specs.Prelude.{is_ok}
use Rattle.command_programs.specs.declared.known.KnownSource.{KnownSource}
use Rattle.command_programs.proofs.KnownLemmas.{AreKnown-inserted}
use Rattle.command_programs.proofs.known.KnownSources.remember.Goals as goal

pub returns : goal.returns
returns c =
    let s : KnownSource = record { bytes = c.shrink_to_fit.new.self; compiled = c.in-Ok.compiled } in
    AreKnown-inserted c.args.desc.now c.args.fold c.args.name.now c.args.self.now.sources.items c.insert.new.self.items c.place_for-place.result s c.args.bytes.items c.args.compiled.now (is_ok c.insert.result)
    c.requires.known c.requires.gives c.requires.filled c.shrink_to_fit.ensures.items c.in-Ok.ensures c.insert.ensures.items
