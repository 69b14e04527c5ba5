pub mod DrivenLemmas
