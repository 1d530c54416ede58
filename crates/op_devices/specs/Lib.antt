-- What the stores on a screen are, and how showing, clearing, login and logout end.
pub mod Wipe
pub mod PutLaws
pub mod WipeLaws
pub mod DeviceLaws
pub mod ShowLaws
pub mod LoginLaws
pub mod DeviceLevelLaws
pub mod SettingLaws
