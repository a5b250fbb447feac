use Rattle.std.proofs.Common.{◌≡◌, take}
use Rattle.ts_proc_renaming.proofs.copies.same_words.Given as goal

-- the names so far
abbrev pub invariant-loop-word : goal.invariant-loop-word
invariant-loop-word l = l.copy ≡ take l.word-index l.words
