use Rattle.std.proofs.Common.{◌<◌, ◌∙◌, refl, arith, length}
use Rattle.ts_proc_renaming.specs.Hidden.{hiding_of}
use Rattle.ts_proc_renaming.proofs.RenamingLemmas.{place_within, word_stays, word_moves}
use Rattle.ts_proc_renaming.proofs.hidden.Hidden.word.Goals as goal
use Rattle.ts_proc_renaming.proofs.hidden.Hidden.word.Goals.{in-None, in-Some}

pub overflow_cast-place : goal.overflow_cast-place
overflow_cast-place c =
    let h : c.in-Some.place < length c.args.self.now.params.words.now = place_within c.args.self.now.params.words.now c.args.word.now.name c.in-Some.place
    c.in-Some.ensures in
    let few = c.args.self.now.few in
    omega (arith, h, few)

pub overflow_add-self : goal.overflow_add-self
overflow_add-self c =
    let h : c.in-Some.place < length c.args.self.now.params.words.now = place_within c.args.self.now.params.words.now c.args.word.now.name c.in-Some.place
    c.in-Some.ensures in
    let few = c.args.self.now.few in
    omega (arith, h, few)

pub returns : goal.returns
returns c =
    elim c.match-place.branch [
      | in-None w ↦ word_stays (hiding_of c.args.self.now) c.args.word.now c.match-place.name (w.name-is ∙ w.copy-name.ensures)
          w.in-None.ensures
      | in-Some w ↦ word_moves (hiding_of c.args.self.now) c.args.word.now c.match-place.name w.in-Some.place _ (w.name-is ∙ w.parameter_name-name.ensures) refl
          w.in-Some.ensures
    ]
