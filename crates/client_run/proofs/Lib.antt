mod ReceiveLemmas
mod TalkLemmas
mod SessionLemmas
mod RunLaws
mod StatusLaws
mod PrintLaws
