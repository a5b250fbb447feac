-- What is printed of a script spells it, except for its places.
use Rattle.std.proofs.Common.{◌≡◌, ℕ, List, length, None, sym, ◌∙◌, ap, subst}
use Rattle.ts_trees.specs.declared.token.TokenKind.{TokenKind}
use Rattle.ts_trees.specs.Tree.{Source}
use Rattle.ts_trees.specs.Spelling.{source_spelled, source_places, noted}
use Rattle.ts_trees.specs.Depth.{first_deep}
use Rattle.ts_trees.specs.Derived.{IsDerived}
use Rattle.ts_trees.specs.Text.{text_of}
use Rattle.ts_lexer.specs.Printed.{AreKinds, IsCutInto, IsTextOf, IsTextButPlaces}
use Rattle.ts_lexer.proofs.CountLemmas.{noted_of_source}
use Rattle.ts_lexer.proofs.KindLemmas.{cut-AreKinds}
use Rattle.ts_lexer.proofs.PlaceLemmas.{source_at, source_at-bare, source_at-spelled, source_at-IsDerived, source_at-places}
use Rattle.ts_lexer.proofs.PrintedLemmas.{written_cut}

pub kinds_of_cut : (bytes : List ℕ) (ks : List TokenKind) → IsCutInto bytes ks → AreKinds ks
kinds_of_cut bytes ks h = subst AreKinds h.are (cut-AreKinds bytes h.tokens h.cuts)

pub script_written : (s : Source) → IsDerived s → AreKinds (source_spelled s) → first_deep (source_spelled s) ≡ None → IsTextButPlaces (text_of (source_spelled s)) s
script_written s derived good within =
    let again = written_cut (source_spelled s) good in
    let ps = noted again.tokens in
    let many : length ps ≡ length (source_places s) = noted_of_source s again.tokens again.are in
    record {
      other = source_at s ps;
      same = source_at-bare s ps;
      text = record {
        tokens = again.tokens;
        cuts = again.cuts;
        spells = record {
          derived = source_at-IsDerived s ps derived;
          spells = source_at-spelled s ps ∙ sym again.are;
          places = source_at-places s ps many;
          within = ap first_deep again.are ∙ within;
        };
      };
    }

pub script_again : (bytes : List ℕ) (s : Source) → IsTextOf bytes s → IsTextButPlaces (text_of (source_spelled s)) s
script_again bytes s h =
    script_written s h.spells.derived (kinds_of_cut bytes (source_spelled s) (record { tokens = h.tokens; cuts = h.cuts; are = sym h.spells.spells }))
    (ap first_deep h.spells.spells ∙ h.spells.within)
