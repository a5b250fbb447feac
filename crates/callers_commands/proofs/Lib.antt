mod AcceptingLemmas
mod FolderLemmas
mod ProgramLemmas
mod CommandLemmas
mod ReadLemmas
mod TextLemmas
mod AuditLemmas
