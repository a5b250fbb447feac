-- How the roles of tokens are seen.
use Rattle.ts_trees.specs.Depth.{Role as Seen, opener, closer, breaker, counter, bystander}
use Rattle.ts_parser.specs.declared.role.Role.{Role}
use Rattle.ts_parser.specs.declared.role.Role.TheVariants as roles

abbrev pub role_seen : Role → Seen
role_seen roles.Opener = opener
role_seen roles.Closer = closer
role_seen roles.Breaker = breaker
role_seen roles.Counter = counter
role_seen roles.Bystander = bystander
