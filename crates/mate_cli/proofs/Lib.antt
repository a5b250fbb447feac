mod AuditLemmas
mod EdgeLemmas
mod RunLemmas
