-- How deep a source is at each token: open blocks, and counted tokens since the last break.
use Rattle.std.specs.Prelude.{ℕ, ◌+◌, ◌-◌, Bool, true, false, ◌&&◌, not, nat_le, if◌then◌else◌, List, [], ◌∷◌, Option, Some, None}
use Rattle.std.specs.Option.{option_map}
use Rattle.ts_trees.specs.declared.depth.TheConstants.{BLOCKS_MAX, COUNTED_MAX}
use Rattle.ts_trees.specs.declared.token.TokenKind.{TokenKind}
use Rattle.ts_trees.specs.declared.token.TokenKind.TheVariants as kind

-- what a token does to the depth: it opens a block; it closes one; it ends a part of a statement; or it counts
pub data Role : Type 0 where
  opener closer breaker counter bystander : Role

abbrev pub role : TokenKind → Role
role kind.If = opener
role kind.For = opener
role kind.While = opener
role kind.Proc = opener
role kind.End = closer
role kind.Next = closer
role kind.Semi = breaker
role kind.Then = breaker
role kind.Else = breaker
role kind.Not = counter
role kind.And = counter
role kind.Or = counter
role kind.Eq = counter
role kind.Ne = counter
role kind.Lt = counter
role kind.Gt = counter
role kind.Le = counter
role kind.Ge = counter
role kind.Plus = counter
role kind.Minus = counter
role kind.Star = counter
role kind.Slash = counter
role kind.Percent = counter
role kind.Open = counter
role kind.OpenBox = counter
role _ = bystander

-- the depth before a token
pub record Depth : Type 0 where
  -- the open blocks
  pub blocks : ℕ
  -- the counted tokens since the last break, or since the start
  pub counted : ℕ
  -- whether the token before it is `end`, after which a keyword opens nothing
  pub ended : Bool

-- the depth at the start
abbrev pub shallow : Depth
shallow = record { blocks = 0; counted = 0; ended = false }

abbrev pub is_end_token : TokenKind → Bool
is_end_token kind.End = true
is_end_token _ = false

-- a token lies too deep: a block inside `BLOCKS_MAX` open ones, or a counted token after `COUNTED_MAX` others
abbrev pub role_is_deep : Depth → Role → Bool
role_is_deep d opener = not d.ended && nat_le BLOCKS_MAX d.blocks
role_is_deep d counter = nat_le COUNTED_MAX d.counted
role_is_deep d _ = false

abbrev pub is_deep : Depth → TokenKind → Bool
is_deep d k = role_is_deep d (role k)

abbrev pub blocks_after : Depth → Role → ℕ
blocks_after d opener = if d.ended then d.blocks else d.blocks + 1
blocks_after d closer = d.blocks - 1
blocks_after d _ = d.blocks

abbrev pub counted_after : Depth → Role → ℕ
counted_after d closer = 0
counted_after d breaker = 0
counted_after d counter = d.counted + 1
counted_after d _ = d.counted

-- the depth after a token
abbrev pub after : Depth → TokenKind → Depth
after d k = record { blocks = blocks_after d (role k); counted = counted_after d (role k); ended = is_end_token k }

-- the position of the first token that lies too deep
abbrev pub deep_from : Depth → List TokenKind → Option ℕ
deep_from d [] = None
deep_from d (k ∷ ks) = if is_deep d k then Some 0 else option_map (λ i. i + 1) (deep_from (after d k) ks)

abbrev pub first_deep : List TokenKind → Option ℕ
first_deep ks = deep_from shallow ks
