-- Tokens that are printed but for those that are left.
use Rattle.std.proofs.Common.{◌≡◌, ℕ, List, [], ◌++◌, Option, ap, sym, ◌∙◌, append_assoc}
use Rattle.std.proofs.lemmas.List.{append-nil}
use Rattle.ts_trees.specs.declared.token.TokenKind.{TokenKind}
use Rattle.ts_syntax.specs.Print.{PrintsTokens}
use Rattle.ts_syntax.specs.declared.printer.Printer.{Printer}
use Rattle.ts_syntax.proofs.PrintLemmas.{◌⋙◌, tokens_by, no_token}
use Rattle.ts_proc_texts.specs.Rest.{PrintsUpTo}

pub up_to : {w0 w1 : Option (List ℕ)} {f0 f1 : ℕ} {a b : Printer} {front left all : List TokenKind} → all ≡ front ++ left → PrintsTokens w0 f0 a w1 f1 b front
    → PrintsUpTo w0 f0 a w1 f1 b left all
up_to {front} whole p = record { front = front; whole = whole; printed = p }

-- nothing is printed yet
pub all_left : {w : Option (List ℕ)} {f : ℕ} {a : Printer} {left all : List TokenKind} → all ≡ left → PrintsUpTo w f a w f a left all
all_left same = record { front = []; whole = same; printed = no_token }

-- all is printed
pub none_left : {w0 w1 : Option (List ℕ)} {f0 f1 : ℕ} {a b : Printer} {left all : List TokenKind} → left ≡ [] → PrintsUpTo w0 f0 a w1 f1 b left all → PrintsTokens w0 f0 a w1 f1 b all
none_left {left} none p = tokens_by (p.whole ∙ ap (λ (ks : List TokenKind). p.front ++ ks) none ∙ append-nil p.front) p.printed

pub all_printed : {w0 w1 : Option (List ℕ)} {f0 f1 : ℕ} {a b : Printer} {all : List TokenKind} → PrintsTokens w0 f0 a w1 f1 b all → PrintsUpTo w0 f0 a w1 f1 b [] all
all_printed {all} p = record { front = all; whole = sym (append-nil all); printed = p }

-- more is printed
pub more_printed : {w0 w1 w2 : Option (List ℕ)} {f0 f1 f2 : ℕ} {a b c : Printer} {more left old all : List TokenKind} → old ≡ more ++ left → PrintsUpTo w0 f0 a w1 f1 b old all
    → PrintsTokens w1 f1 b w2 f2 c more → PrintsUpTo w0 f0 a w2 f2 c left all
more_printed {more} {left} splits p q = record {
  front = p.front ++ more;
  whole = p.whole ∙ ap (λ (ks : List TokenKind). p.front ++ ks) splits ∙ sym (append_assoc p.front more left);
  printed = p.printed ⋙ q;
}

-- the first of what is left is printed up to a part of it
pub part_printed : {w0 w1 w2 : Option (List ℕ)} {f0 f1 f2 : ℕ} {a b c : Printer} {part first old new all : List TokenKind} (below : List TokenKind) → old ≡ first ++ below → new ≡ part ++ below
    → PrintsUpTo w0 f0 a w1 f1 b old all → PrintsUpTo w1 f1 b w2 f2 c part first → PrintsUpTo w0 f0 a w2 f2 c new all
part_printed {part} {new} below splits becomes p q =
    more_printed (splits ∙ ap (λ (ks : List TokenKind). ks ++ below) q.whole ∙ append_assoc q.front part below ∙ ap (λ (ks : List TokenKind). q.front ++ ks) (sym becomes)) p q.printed

-- the same where others came before
pub after_all : {w0 w1 w2 : Option (List ℕ)} {f0 f1 f2 : ℕ} {a b c : Printer} {before left all : List TokenKind} → PrintsTokens w0 f0 a w1 f1 b before → PrintsUpTo w1 f1 b w2 f2 c left all
    → PrintsUpTo w0 f0 a w2 f2 c left (before ++ all)
after_all {before} {left} p q = record {
  front = before ++ q.front;
  whole = ap (λ (ks : List TokenKind). before ++ ks) q.whole ∙ sym (append_assoc before q.front left);
  printed = p ⋙ q.printed;
}

-- the same where others come behind
pub with_more : {w0 w1 : Option (List ℕ)} {f0 f1 : ℕ} {a b : Printer} {part first all : List TokenKind} (below : List TokenKind) → all ≡ first ++ below
    → PrintsUpTo w0 f0 a w1 f1 b part first → PrintsUpTo w0 f0 a w1 f1 b (part ++ below) all
with_more {part} below whole p = record {
  front = p.front;
  whole = whole ∙ ap (λ (ks : List TokenKind). ks ++ below) p.whole ∙ append_assoc p.front part below;
  printed = p.printed;
}

-- the same of equal tokens
pub up_to_by : {w0 w1 : Option (List ℕ)} {f0 f1 : ℕ} {a b : Printer} {left other all whole : List TokenKind} → other ≡ left → whole ≡ all → PrintsUpTo w0 f0 a w1 f1 b left all
    → PrintsUpTo w0 f0 a w1 f1 b other whole
up_to_by {other} same is p = record { front = p.front; whole = is ∙ p.whole ∙ ap (λ (ks : List TokenKind). p.front ++ ks) (sym same); printed = p.printed }
